-- The least number that answers, as an answer: there is one, and only one.
use Prim.Native.Nat.{ℕ, ◌<◌}
use mathlib.Core.Bool.{Bool, true, false}
use mathlib.Core.Logic.{⊎_elim}
use mathlib.Core.Path.{◌≡◌, refl, sym, ap, subst}
use native.Mathlib.Omega.{arith}
use Rattle.word.proofs.Tests.{both}
use Rattle.word.proofs.Searches.{least_unique, first_or_none, first_is, first_none}
use Rattle.placement.specs.Place.{least_fit}
use Rattle.std.specs.Prelude.{Option, Some, None}

module _ (p : ℕ → Bool) where
  -- at the least number, or nothing where none below n answers
  abbrev pub LeastIn : ℕ → Option ℕ → Type 0
  LeastIn n (Some a) = (a < n) × (p a ≡ true) × ((b : ℕ) → b < a → p b ≡ false)
  LeastIn n None = (b : ℕ) → b < n → p b ≡ false

  pub fit_least : (n : ℕ) → LeastIn n (least_fit p n)
  unfolding least_fit
  fit_least n =
      ⊎_elim (λ r. subst (LeastIn n) (sym (first_is Some None p n r.0 r.1)) (r.1.below, r.1.here, r.1.before)) (λ f. subst (LeastIn n) (sym (first_none Some None p n f)) f) (first_or_none p n)

  pub fit_unique : (n : ℕ) (r s : Option ℕ) → LeastIn n r → LeastIn n s → r ≡ s
  fit_unique n (Some a) (Some b) x y =
      ap Some (least_unique p n a b (record { most = omega (arith, x.0); holds = λ h. x.1; none = x.2 }) (record { most = omega (arith, y.0); holds = λ h. y.1; none = y.2 }))
  fit_unique n (Some a) None x y = absurd (both x.1 (y a x.0))
  fit_unique n None (Some b) x y = absurd (both y.1 (x b y.0))
  fit_unique n None None x y = refl
