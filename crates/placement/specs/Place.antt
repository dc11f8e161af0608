-- A place for a BAR and the lowest one (document 01, "Placement": "Each takes the lowest multiple of its size whose range lies in the aperture and meets nothing placed").
use Rattle.std.specs.Prelude.{ℕ, ◌+◌, ◌<◌, Bool, true, false, not, ◌&&◌, List, ◌≡◌, length, get_or, Option, Some, None}
use Rattle.refusal.specs.Number.{accepted, no_place}
use Rattle.word.specs.Search.{any_below, first_of}
use Rattle.bar.specs.Range.{range, multiple, lies_in, meets}
use Rattle.bar.specs.declared.range.Range.{Range}
use Rattle.bar.specs.declared.range.Aperture.{Aperture}

-- the empty range, which stands where nothing is placed: it meets nothing
abbrev pub no_range : Range
no_range = range 0 0

-- whether a range meets one of a list
unfoldable pub meets_any : Range → List Range → Bool
meets_any r placed = any_below (λ i. meets r (get_or placed i no_range)) (length placed)

-- whether `size` addresses from a on are a multiple of the size, in the aperture, and meet nothing placed: of an automatic BAR, a fixed one, and one that is moved
unfoldable pub is_place : Aperture → ℕ → List Range → ℕ → Bool
is_place aperture size placed a = multiple (range a size) && (lies_in aperture (range a size) && not (meets_any (range a size) placed))

-- what the search promises: a place with none below it, or nothing where there is none at all
abbrev pub Lowest : Aperture → ℕ → List Range → Option ℕ → Type 0
Lowest aperture size placed (Some a) = (is_place aperture size placed a ≡ true) × ((b : ℕ) → b < a → is_place aperture size placed b ≡ false)
Lowest aperture size placed None = (b : ℕ) → is_place aperture size placed b ≡ false

-- the least number below n that answers, as an answer
unfoldable pub least_fit : (ℕ → Bool) → ℕ → Option ℕ
least_fit p n = first_of Some None p n

-- the one answer that is so (proofs/Places.antt shows both)
unfoldable pub lowest_of : Aperture → ℕ → List Range → Option ℕ
lowest_of aperture size placed = least_fit (is_place aperture size placed) (aperture.end + 1)

-- document 01's number for each answer
abbrev pub fit_number : Option ℕ → ℕ
fit_number (Some a) = accepted
fit_number None = no_place
