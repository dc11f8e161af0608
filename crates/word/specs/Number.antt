-- Little-endian numbers in bytes, at any width.
use Rattle.std.specs.Prelude.{ℕ, ◌+◌, ◌-◌, ◌*◌, ◌/◌, ◌%◌, ◌^◌, min, cond, List, [], ◌∷◌, take, drop}
use Rattle.word.specs.Table.{table}
use Rattle.word.specs.Interval.{covers}

-- the number that bytes spell, the first one lowest
unfoldable pub number : List ℕ → ℕ
number [] = 0
number (b ∷ bs) = b + 256 * number bs

-- byte k of a number, the lowest being byte 0
abbrev pub byte_of : ℕ → ℕ → ℕ
byte_of v k = v / 256 ^ k % 256

-- the lowest w bytes of a number
unfoldable pub bytes_of : ℕ → ℕ → List ℕ
bytes_of w v = table w (byte_of v)

-- as many bytes of a list as it has, of the `width` from `offset` on
abbrev pub part_of : List ℕ → ℕ → ℕ → List ℕ
part_of bytes offset width = take width (drop offset bytes)

-- the number in `width` bytes from `offset` on: of those bytes, as many as the list has, and no more than the eight of the widest access
unfoldable pub read_at : List ℕ → ℕ → ℕ → ℕ
read_at bytes offset width = number (part_of bytes offset (min width 8))

-- byte k of a dword with `width` bytes of a value in place of its own from `lane` on
abbrev pub merged_byte : ℕ → ℕ → ℕ → ℕ → ℕ → ℕ
merged_byte dword lane width value k = cond (covers lane width k) (byte_of value (k - lane)) (byte_of dword k)

-- the dword of those four; what would lie past its end is dropped
unfoldable pub merge : ℕ → ℕ → ℕ → ℕ → ℕ
merge dword lane width value = number (table 4 (merged_byte dword lane width value))
