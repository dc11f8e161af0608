-- What a place is, and that the lowest one is unique.
use Prim.Native.Nat.{ℕ, ◌+◌, ◌<◌, ◌≤◌}
use mathlib.Core.Bool.{true, false, not, ◌&&◌}
use mathlib.Core.List.{List}
use mathlib.Core.Logic.{⊎_elim}
use mathlib.Core.Path.{◌≡◌, refl}
use native.Mathlib.Omega.{arith}
use borrow.Author.Tests.{not-true}
use lib.ListN.{length, get_or, get_or-eq_default}
use Rattle.word.proofs.Tests.{below_or_not, both, never, and_left, and_right}
use Rattle.word.proofs.Searches.{any_found, any_has_lem}
use Rattle.bar.specs.Range.{range, multiple, lies_in, meets}
use Rattle.bar.specs.declared.range.Range.{Range}
use Rattle.bar.specs.declared.range.Aperture.{Aperture}
use Rattle.bar.proofs.Ranges.{empty_second, lies_end}
use Rattle.placement.specs.Place.{no_range, meets_any, is_place, Lowest, least_fit, lowest_of}
use Rattle.std.specs.Prelude.{Option, Some, None}
use Rattle.placement.proofs.Fits.{LeastIn, fit_least, fit_unique}

-- a range meets one of a list, or is free of each
pub met_any : (r : Range) (placed : List Range) (i : ℕ) → meets r (get_or placed i no_range) ≡ true → meets_any r placed ≡ true
unfolding meets_any
met_any r placed i e =
    ⊎_elim (λ (h : i < length placed). any_found (λ j. meets r (get_or placed j no_range)) i (length placed) h e)
    (λ (h : length placed ≤ i). absurd (both (rw (get_or-eq_default placed no_range {n = i} h) at e) (empty_second r no_range refl)))
    (below_or_not i (length placed))

pub free_of : (r : Range) (placed : List Range) → meets_any r placed ≡ false → (i : ℕ) → meets r (get_or placed i no_range) ≡ false
free_of r placed e i = never (meets r (get_or placed i no_range)) (λ t. both (met_any r placed i t) e)

pub free_any : (r : Range) (placed : List Range) → ((i : ℕ) → i < length placed → meets r (get_or placed i no_range) ≡ false) → meets_any r placed ≡ false
unfolding meets_any
free_any r placed f =
    never (meets_any r placed) (λ t. let w = any_has_lem (λ j. meets r (get_or placed j no_range)) (length placed) t in both w.2 (f w.0 w.1))

-- a place: aligned, in the aperture, free
pub record Place (aperture : Aperture) (size : ℕ) (placed : List Range) (a : ℕ) : Type 0 where
  pub aligned : multiple (range a size) ≡ true
  pub within : lies_in aperture (range a size) ≡ true
  pub free : (i : ℕ) → meets (range a size) (get_or placed i no_range) ≡ false

module _ (aperture : Aperture) (size : ℕ) (placed : List Range) where
  pub is_place_lem : (a : ℕ) → Place aperture size placed a → is_place aperture size placed a ≡ true
  unfolding is_place
  is_place_lem a p = rw (p.aligned, p.within, free_any (range a size) placed (λ i h. p.free i))

  pub place_is : (a : ℕ) → is_place aperture size placed a ≡ true → Place aperture size placed a
  unfolding is_place
  place_is a e =
      let m = multiple (range a size) in
      let l = lies_in aperture (range a size) in
      let f = not (meets_any (range a size) placed) in
      record { aligned = and_left m (l && f) e; within = and_left l f (and_right m (l && f) e); free = free_of (range a size) placed (not-true (meets_any (range a size) placed) (and_right l f (and_right m (l && f) e))) }

  -- no place, for whoever shows that one is absurd
  pub no_place_lem : (a : ℕ) → (Place aperture size placed a → ⊥) → is_place aperture size placed a ≡ false
  no_place_lem a h = never (is_place aperture size placed a) (λ t. h (place_is a t))

  -- a place ends in the aperture
  pub place_end : (a : ℕ) → is_place aperture size placed a ≡ true → a + size ≤ aperture.end
  place_end a e = lies_end aperture (range a size) (place_is a e).within

  to_least : (r : Option ℕ) → Lowest aperture size placed r → LeastIn (is_place aperture size placed) (aperture.end + 1) r
  to_least (Some a) l = (omega (arith, place_end a l.0), l.0, l.1)
  to_least None l = λ b h. l b

  from_least : (r : Option ℕ) → LeastIn (is_place aperture size placed) (aperture.end + 1) r → Lowest aperture size placed r
  from_least (Some a) l = (l.1, l.2)
  from_least None l = λ b. never (is_place aperture size placed b) (λ t. both t (l b (omega (arith, place_end b t))))

  -- two answers to one question are equal
  pub lowest_unique : (r s : Option ℕ) → Lowest aperture size placed r → Lowest aperture size placed s → r ≡ s
  lowest_unique r s a b = fit_unique (is_place aperture size placed) (aperture.end + 1) r s (to_least r a) (to_least s b)

  -- there is always one
  pub lowest_is : Lowest aperture size placed (lowest_of aperture size placed)
  unfolding lowest_of
  lowest_is = from_least (least_fit (is_place aperture size placed) (aperture.end + 1)) (fit_least (is_place aperture size placed) (aperture.end + 1))

  pub is_lowest : (r : Option ℕ) → Lowest aperture size placed r → r ≡ lowest_of aperture size placed
  is_lowest r l = lowest_unique r (lowest_of aperture size placed) l lowest_is
