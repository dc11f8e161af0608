-- Which capability holds a config byte, and the mode of each byte (document 01, "Power-on image"; capability.rs, byte_mode).
use Rattle.std.specs.Prelude.{Option, Some, None, ℕ, ◌+◌, Bool, cond, List, eqb, get_or}
use Rattle.word.specs.Search.{first_of}
use Rattle.word.specs.Interval.{covers}
use Rattle.capability.specs.Size.{header_size}
use Rattle.capability.specs.Owner.{capability_count, capability_at, start_of, owner_of}
use Rattle.capability.specs.declared.placed.Placed.{Placed}
use Rattle.capability.specs.declared.byte_mode.ByteMode.{ByteMode}
use Rattle.capability.specs.declared.byte_mode.ByteMode.TheVariants as mode

-- whether config byte j lies in the capability at index i, its header or its body
unfoldable pub in_capability : Placed → ℕ → ℕ → Bool
in_capability p j i = covers (start_of p i) (header_size + (capability_at p i).length) j

-- the capability that holds byte j, or none: "outside every capability"
unfoldable pub holder_of : Placed → ℕ → Option ℕ
holder_of p j = first_of Some None (in_capability p j) (capability_count p)

-- a body byte: an effect's, or stored under its mask, and constant where the mask is zero
abbrev pub body_mode : Option ℕ → ℕ → ByteMode
body_mode (Some k) mask = mode.EffectOnly
body_mode None mask = cond (eqb mask 0) mode.Constant mode.StoredMasked

-- a byte of the capability at index i: its header is constant
abbrev pub mode_in : Placed → List ℕ → ℕ → Option ℕ → Option ByteMode
mode_in p mask j None = None
mode_in p mask j (Some i) = cond (covers (start_of p i) header_size j) (Some mode.Constant) (Some (body_mode (owner_of p j) (get_or mask j 0)))

-- the mode of config byte j under the write masks of the whole config space
unfoldable pub byte_mode_of : Placed → List ℕ → ℕ → Option ByteMode
byte_mode_of p mask j = mode_in p mask j (holder_of p j)
