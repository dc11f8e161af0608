-- Intervals of numbers, as a start and a length. Sums are of natural numbers, so none wraps.
use Rattle.std.specs.Prelude.{ℕ, ◌+◌, min, max, Bool, ◌&&◌, leb, ltb}

-- whether j is one of the `width` numbers from `offset` on
unfoldable pub covers : ℕ → ℕ → ℕ → Bool
covers offset width j = leb offset j && ltb j (offset + width)

-- whether some number is one of the w from o on and one of the v from p on (`overlap_common` and `common_overlap` show that it is this)
unfoldable pub overlap : ℕ → ℕ → ℕ → ℕ → Bool
overlap o w p v = ltb (max o p) (min (o + w) (p + v))
