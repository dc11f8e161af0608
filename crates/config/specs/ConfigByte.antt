-- Where config bytes may stand: refusal 9 of document 01.
use Rattle.std.specs.Prelude.{is_none, ℕ, ◌<◌, min, Bool, not, ◌&&◌, ◌||◌, ◌≡◌, eqb, leb, ltb, length, get_or, Result, Ok, Err}
use Rattle.address.specs.Kinds.{offset}
use Rattle.address.specs.Layout.{cache_line_size, latency_timer, interrupt_line, standard_header_end}
use Rattle.word.specs.Search.{first_of}
use Rattle.capability.specs.Mode.{holder_of}
use Rattle.capability.specs.declared.placed.Placed.{Placed}
use Rattle.config.specs.declared.config_byte.BadConfigByte.{BadConfigByte}
use Rattle.config.specs.declared.function.ConfigByte.{ConfigByte}
use Rattle.config.specs.declared.function.Contents.{Contents}

-- what stands past the last config byte
abbrev pub no_config_byte : ConfigByte
no_config_byte = record { offset = offset 0; value = 0; mask = 0 }

-- how many config bytes there are
abbrev pub byte_count : Contents → ℕ
byte_count f = min f.byte_count (length f.bytes)

abbrev pub byte_offset : Contents → ℕ → ℕ
byte_offset f i = (get_or f.bytes i no_config_byte).offset.0

-- "at 0x0c, 0x0d, 0x3c"
abbrev pub header_byte : ℕ → Bool
header_byte o = eqb o cache_line_size || (eqb o latency_timer || eqb o interrupt_line)

-- "or in 0x40 to 0xff outside every capability", of a config space of `space` bytes
unfoldable pub byte_ok : ℕ → Placed → ℕ → Bool
byte_ok space p o = header_byte o || (leb standard_header_end o && (ltb o space && is_none (holder_of p o)))

-- whether the config byte at an index is refused
abbrev pub byte_bad : ℕ → Contents → Placed → ℕ → Bool
byte_bad space f p i = not (byte_ok space p (byte_offset f i))

-- refused is one by its index
abbrev pub bad : ℕ → Result Unit BadConfigByte
bad i = Err (record { 0 = i })

-- the first config byte that is refused
unfoldable pub byte_check_of : ℕ → Contents → Placed → Result Unit BadConfigByte
byte_check_of space f p = first_of bad (Ok tt) (byte_bad space f p) (byte_count f)

-- "the later of two at one offset wins": the last config byte at its offset
pub record Last (f : Contents) (i : ℕ) : Type 0 where
  pub below : i < byte_count f
  pub alone : (k : ℕ) → i < k → k < byte_count f → byte_offset f i ≡ byte_offset f k → ⊥
