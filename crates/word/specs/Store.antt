-- The store under a write mask (document 01, "Access and reset": "any other write stores value bits where the mask is 1").
use Rattle.std.specs.Prelude.{ℕ, ◌-◌, cond, List, length, get_or}
use Rattle.std.specs.Int.Bits.{bit_and, bit_or}
use Rattle.word.specs.Table.{table}
use Rattle.word.specs.Interval.{covers}
use Rattle.word.specs.Number.{byte_of}

-- one byte: value bits where the mask is 1, the old ones where it is 0 (`blend_bit` of proofs/Blends.antt says it bit by bit)
unfoldable pub blend : ℕ → ℕ → ℕ → ℕ
blend mask old value = bit_or (bit_and old (255 - mask)) (bit_and value mask)

-- the byte at index j after a store of `width` bytes of `value` from `offset` on: where the store covers j, blended under the mask's byte there (a place that the mask lacks is read-only); elsewhere as it was
abbrev pub stored_byte : List ℕ → List ℕ → ℕ → ℕ → ℕ → ℕ → ℕ
stored_byte mask live offset width value j =
    cond (covers offset width j) (blend (get_or mask j 0) (get_or live j 0) (byte_of value (j - offset))) (get_or live j 0)

-- all of them
unfoldable pub stored : List ℕ → List ℕ → ℕ → ℕ → ℕ → List ℕ
stored mask live offset width value = table (length live) (stored_byte mask live offset width value)

-- the bytes after `width` bytes of `value` were put from `offset` on, with no mask
abbrev pub put_byte : List ℕ → ℕ → ℕ → ℕ → ℕ → ℕ
put_byte bytes offset width value j = cond (covers offset width j) (byte_of value (j - offset)) (get_or bytes j 0)

unfoldable pub put_of : List ℕ → ℕ → ℕ → ℕ → List ℕ
put_of bytes offset width value = table (length bytes) (put_byte bytes offset width value)

-- the bytes after the first w of a list were laid over them from `offset` on; what would lie past the end is dropped
abbrev pub laid_byte : List ℕ → ℕ → ℕ → List ℕ → ℕ → ℕ
laid_byte bytes offset w part j = cond (covers offset w j) (get_or part (j - offset) 0) (get_or bytes j 0)

unfoldable pub laid_over : List ℕ → ℕ → ℕ → List ℕ → List ℕ
laid_over bytes offset w part = table (length bytes) (laid_byte bytes offset w part)
