-- An image said by fields: each has its place and its bytes, the later of two at one place wins, and what no field covers stays.
use Rattle.std.specs.Prelude.{ℕ, zero, suc, ◌-◌, Bool, cond, List, [], ◌∷◌, ◌++◌, length, get_or}
use Rattle.word.specs.Number.{byte_of}
use Rattle.word.specs.Interval.{covers}
use Rattle.word.specs.Table.{table}

pub data Field : Type 0 where
  -- at an offset, as many bytes of a number, lowest first
  at : ℕ → ℕ → ℕ → Field
  -- at an offset, as many bytes of a list that keeps each byte at its place from `base` on
  part : ℕ → ℕ → ℕ → List ℕ → Field

-- whether a field has a byte at j
abbrev pub has : Field → ℕ → Bool
has (at offset width value) j = covers offset width j
has (part offset width base bytes) j = covers offset width j

-- and which
abbrev pub byte_at : Field → ℕ → ℕ
byte_at (at offset width value) j = byte_of value (j - offset)
byte_at (part offset width base bytes) j = get_or bytes (j - base) 0

-- byte j under the fields, where b was there before
unfoldable pub under : ℕ → List Field → ℕ → ℕ
under b [] j = b
under b (f ∷ fs) j = under (cond (has f j) (byte_at f j) b) fs j

-- bytes with the fields laid over them
unfoldable pub laid : List ℕ → List Field → List ℕ
laid bytes fs = table (length bytes) (λ j. under (get_or bytes j 0) fs j)

-- an image of n bytes that has these fields; "everything else is zero"
unfoldable pub image_of : ℕ → List Field → List ℕ
image_of n fs = table n (under 0 fs)

-- the fields that f gives for each number below n, in order
unfoldable pub fields_below : (ℕ → List Field) → ℕ → List Field
fields_below f zero = []
fields_below f (suc n) = fields_below f n ++ f n
