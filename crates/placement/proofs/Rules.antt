-- The rule for one BAR: it has one address or one row, and not both.
use Prim.Native.Nat.{ℕ, ◌<◌, ◌≤◌}
use mathlib.Core.Bool.{Bool, true, false, cond}
use mathlib.Core.List.{List}
use mathlib.Core.Logic.{◌⊎◌, inl, inr, ⊎_elim}
use mathlib.Core.Path.{◌≡◌, refl, sym, subst, ◌∙◌}
use native.Mathlib.Omega.{arith}
use Rattle.std.specs.Prelude.{Some, Result, Ok, Err}
use Rattle.refusal.specs.declared.refusal.Refusal.{Refusal}
use Rattle.refusal.specs.declared.refusal.Refusal.TheVariants.{NotMultiple, OutsideAperture, OverlapsPlaced, NoPlace}
use Rattle.word.proofs.Tests.{below_or_not, true_or_false, both}
use Rattle.bar.specs.Range.{range, multiple, lies_in}
use Rattle.bar.specs.declared.range.Range.{Range}
use Rattle.bar.specs.declared.range.Aperture.{Aperture}
use Rattle.bar.specs.declared.memory_bar.MemoryBar.{MemoryBar}
use Rattle.bar.specs.declared.memory_bar.Request.{Request}
use Rattle.bar.specs.declared.memory_bar.Request.TheVariants.{Auto, Fixed}
use Rattle.placement.specs.Place.{meets_any, is_place, Lowest}
use Rattle.placement.specs.Passes.{first_fault, fixed_verdict}
use Rattle.placement.specs.Rule.{Given, Row14, Row15, Row16, Row17, Row, row14, row15, row16, row17}
use Rattle.placement.proofs.Places.{Place, place_is, free_any, lowest_unique}
use Rattle.placement.proofs.Verdicts.{verdict_14, verdict_15, verdict_16, verdict_good}

pub by_request : (r : Request) → (r ≡ Auto) ⊎ ((a : ℕ) × (r ≡ Fixed a))
by_request Auto = inl refl
by_request (Fixed a) = inr (a, refl)

-- a BAR is fixed or automatic, not both
pub fixed_auto : (r : Request) (a : ℕ) → r ≡ Fixed a → r ≡ Auto → ⊥
fixed_auto r a e f = let z : ◌≡◌ {A = ℕ} 0 1 = cc in absurd (omega arith)

fixed_same : (r : Request) (a b : ℕ) → r ≡ Fixed a → r ≡ Fixed b → a ≡ b
fixed_same r a b e f = cc

at_same : (a b : ℕ) → Some a ≡ Some b → a ≡ b
at_same a b e = cc

module _ (aperture : Aperture) (bar : MemoryBar) (placed : List Range) where
  -- the three ways to an address
  pub given_fixed : (a : ℕ) → bar.request ≡ Fixed a → is_place aperture bar.size placed a ≡ true → Given aperture bar placed a
  given_fixed a e p =
      record { fixed = λ b f. let q = fixed_same bar.request a b e f in (q, rw (← q) p); automatic = λ f h. absurd (fixed_auto bar.request a e f); none = λ f h. absurd (fixed_auto bar.request a e f) }

  pub given_auto : (a : ℕ) → bar.request ≡ Auto → 0 < bar.size → Lowest aperture bar.size placed (Some a) → Given aperture bar placed a
  given_auto a e z l = record { fixed = λ b f. absurd (fixed_auto bar.request b f e); automatic = λ f h. l; none = λ f h. absurd (omega arith) }

  pub given_none : bar.request ≡ Auto → bar.size ≡ 0 → Given aperture bar placed 0
  given_none e z = record { fixed = λ b f. absurd (fixed_auto bar.request b f e); automatic = λ f h. absurd (omega arith); none = λ f h. refl }

  -- there is one address
  pub given_same : (a b : ℕ) → Given aperture bar placed a → Given aperture bar placed b → a ≡ b
  given_same a b g h =
      ⊎_elim (λ (e : bar.request ≡ Auto).
      ⊎_elim (λ (z : 0 < bar.size). at_same a b (lowest_unique aperture bar.size placed (Some a) (Some b) (g.automatic e z) (h.automatic e z)))
      (λ (z : bar.size ≤ 0). g.none e (omega arith) ∙ sym (h.none e (omega arith)))
      (below_or_not 0 bar.size))
      (λ e. (g.fixed e.0 e.1).0 ∙ sym (h.fixed e.0 e.1).0)
      (by_request bar.request)

  -- the place of a fixed BAR that has its address
  fixed_place : (a b : ℕ) → bar.request ≡ Fixed a → Given aperture bar placed b → Place aperture bar.size placed a
  fixed_place a b e g = place_is aperture bar.size placed a (g.fixed a e).1

  -- a BAR that has a row has no address
  pub row_given : (n : Refusal) (a : ℕ) → Row aperture bar placed n → Given aperture bar placed a → ⊥
  row_given n a (row14 r) g = both (fixed_place r.address a r.fixed g).aligned r.not_multiple
  row_given n a (row15 r) g = both (fixed_place r.address a r.fixed g).within r.outside
  row_given n a (row16 r) g = both r.overlaps (free_any (range r.address bar.size) placed (λ i h. (fixed_place r.address a r.fixed g).free i))
  row_given n a (row17 r) g = both (g.automatic r.automatic r.there).0 (r.no_place a)

  -- there is one row
  abbrev refusal_of : Request → Refusal
  refusal_of (Fixed a) = first_fault aperture (range a bar.size)
  refusal_of Auto = NoPlace

  row_refusal : (n : Refusal) → Row aperture bar placed n → n ≡ refusal_of bar.request
  row_refusal n (row14 r) = rw (r.fixed, r.not_multiple)
  row_refusal n (row15 r) = rw (r.fixed, r.not_14, r.outside)
  row_refusal n (row16 r) = rw (r.fixed, r.not_14, r.not_15)
  row_refusal n (row17 r) = rw r.automatic

  pub row_same : (n m : Refusal) → Row aperture bar placed n → Row aperture bar placed m → n ≡ m
  row_same n m r s = row_refusal n r ∙ sym (row_refusal m s)

  -- what a refusal says
  row_is : (n : Refusal) → Row aperture bar placed n → (n ≡ NotMultiple → Row14 bar) × (n ≡ OutsideAperture → Row15 aperture bar) × (n ≡ OverlapsPlaced → Row16 aperture bar placed) × (n ≡ NoPlace → Row17 aperture bar placed)
  row_is n (row14 r) = (λ e. r, λ e. cc, λ e. cc, λ e. cc)
  row_is n (row15 r) = (λ e. cc, λ e. r, λ e. cc, λ e. cc)
  row_is n (row16 r) = (λ e. cc, λ e. cc, λ e. r, λ e. cc)
  row_is n (row17 r) = (λ e. cc, λ e. cc, λ e. cc, λ e. r)

  pub is_row14 : Row aperture bar placed NotMultiple → Row14 bar
  is_row14 r = (row_is NotMultiple r).0 refl

  pub is_row15 : Row aperture bar placed OutsideAperture → Row15 aperture bar
  is_row15 r = (row_is OutsideAperture r).1 refl

  pub is_row16 : Row aperture bar placed OverlapsPlaced → Row16 aperture bar placed
  is_row16 r = (row_is OverlapsPlaced r).2 refl

  pub is_row17 : Row aperture bar placed NoPlace → Row17 aperture bar placed
  is_row17 r = (row_is NoPlace r).3 refl

  -- what the checks of a fixed BAR say
  by_place : (t : Bool) (e : Refusal) (u : Unit {0}) → ◌≡◌ {A = Result (Unit {0}) Refusal} (cond t (Ok tt) (Err e)) (Ok u) → t ≡ true
  by_place true e u q = refl
  by_place false e u q = cc

  pub verdict_given : (a : ℕ) (u : Unit {0}) → bar.request ≡ Fixed a → fixed_verdict aperture placed (range a bar.size) ≡ Ok u → Given aperture bar placed a
  unfolding fixed_verdict
  verdict_given a u e f =
      given_fixed a e (by_place (is_place aperture bar.size placed a) (first_fault aperture (range a bar.size)) u f)

  same_refusal : (v : Result Unit Refusal) (m n : Refusal) → v ≡ Err m → v ≡ Err n → Row aperture bar placed m → Row aperture bar placed n
  same_refusal v m n e f r = let q : m ≡ n = cc in subst (Row aperture bar placed) q r

  pub verdict_row : (a : ℕ) (n : Refusal) → bar.request ≡ Fixed a → fixed_verdict aperture placed (range a bar.size) ≡ Err n → Row aperture bar placed n
  verdict_row a n e f =
      let r = range a bar.size in
      let v = fixed_verdict aperture placed r in
      ⊎_elim (λ (m : multiple r ≡ true).
      ⊎_elim (λ (l : lies_in aperture r ≡ true).
      ⊎_elim (λ (o : meets_any r placed ≡ true). same_refusal v OverlapsPlaced n (verdict_16 aperture placed r m l o) f (row16 (record { address = a; fixed = e; not_14 = m; not_15 = l; overlaps = o })))
      (λ (o : meets_any r placed ≡ false). let g = verdict_good aperture placed r m l o in cc)
      (true_or_false (meets_any r placed)))
      (λ (l : lies_in aperture r ≡ false). same_refusal v OutsideAperture n (verdict_15 aperture placed r m l) f (row15 (record { address = a; fixed = e; not_14 = m; outside = l })))
      (true_or_false (lies_in aperture r)))
      (λ (m : multiple r ≡ false). same_refusal v NotMultiple n (verdict_14 aperture placed r m) f (row14 (record { address = a; fixed = e; not_multiple = m })))
      (true_or_false (multiple r))
