-- The checks of a fixed range, one law a check.
use mathlib.Core.Bool.{Bool, true, false, cond}
use mathlib.Core.List.{List}
use mathlib.Core.Path.{◌≡◌, refl}
use Rattle.std.specs.Prelude.{Ok, Err, is_ok}
use Rattle.refusal.specs.declared.refusal.Refusal.{Refusal}
use Rattle.refusal.specs.declared.refusal.Refusal.TheVariants.{NotMultiple, OutsideAperture, OverlapsPlaced}
use Rattle.bar.specs.Range.{multiple, lies_in}
use Rattle.bar.specs.declared.range.Range.{Range}
use Rattle.bar.specs.declared.range.Aperture.{Aperture}
use Rattle.placement.specs.Place.{meets_any, is_place}
use Rattle.placement.specs.Passes.{first_fault, fixed_verdict}

module _ (aperture : Aperture) (placed : List Range) (r : Range) where
  pub verdict_14 : multiple r ≡ false → fixed_verdict aperture placed r ≡ Err NotMultiple
  unfolding fixed_verdict is_place
  verdict_14 e = rw e

  pub verdict_15 : multiple r ≡ true → lies_in aperture r ≡ false → fixed_verdict aperture placed r ≡ Err OutsideAperture
  unfolding fixed_verdict is_place
  verdict_15 e f = rw (e, f)

  pub verdict_16 : multiple r ≡ true → lies_in aperture r ≡ true → meets_any r placed ≡ true → fixed_verdict aperture placed r ≡ Err OverlapsPlaced
  unfolding fixed_verdict is_place
  verdict_16 e f g = rw (e, f, g)

  pub verdict_good : multiple r ≡ true → lies_in aperture r ≡ true → meets_any r placed ≡ false → fixed_verdict aperture placed r ≡ Ok tt
  unfolding fixed_verdict is_place
  verdict_good e f g = rw (e, f, g)

  -- and the other way: the verdict tells whether the range is a place
  pub verdict_place : is_ok (fixed_verdict aperture placed r) ≡ is_place aperture r.size placed r.start
  unfolding fixed_verdict
  verdict_place = by_place (is_place aperture r.size placed r.start) (first_fault aperture r)
    where
      by_place : (t : Bool) (e : Refusal) → is_ok {T = Unit} (cond t (Ok tt) (Err e)) ≡ t
      by_place true e = refl
      by_place false e = refl
