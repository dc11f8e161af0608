-- How the search goes on: the next multiple, and the range that a candidate runs into. No promise of the search speaks of these.
use Rattle.std.specs.Prelude.{ℕ, ◌^◌, ◌<◌, Bool, true, false, ◌&&◌, List, ◌≡◌, leb, length, get_or, Option, Some, None}
use Rattle.bar.specs.Range.{range, multiple, meets}
use Rattle.bar.specs.declared.range.Range.{Range}
use Rattle.placement.specs.Place.{no_range, meets_any, least_fit}

-- whether a is a multiple of size, from `from` on
unfoldable pub multiple_from : ℕ → ℕ → ℕ → Bool
multiple_from from size a = leb from a && multiple (range a size)

-- the least such number of 64 bits
unfoldable pub aligned_from : ℕ → ℕ → Option ℕ
aligned_from from size = least_fit (multiple_from from size) (2 ^ 64)

-- what a range runs into: one of the placed ranges, or nothing where it meets none
abbrev pub Clash : Range → List Range → Option Range → Type 0
Clash r placed None = meets_any r placed ≡ false
Clash r placed (Some p) = (i : ℕ) × (i < length placed) × (p ≡ get_or placed i no_range) × (meets r p ≡ true)
