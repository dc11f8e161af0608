-- An answer that a test decides: which test it was, from the answer.
use Rattle.std.specs.Prelude.{ℕ, ◌≡◌, Bool, true, false, cond, Result, Ok, Err}
use mathlib.Core.Path.{refl}
use native.Mathlib.Omega.{arith}
use Rattle.refusal.specs.declared.refusal.Refusal.{Refusal}

pub was_ok : {A : Type 0} (t : Bool) (x y : A) (q : Refusal) → cond t (Ok x) (Err q) ≡ Ok y → (y ≡ x) × (t ≡ true)
was_ok true x y q e = (cc, refl)
was_ok false x y q e = let z : ◌≡◌ {A = ℕ} 0 1 = cc in absurd (omega arith)

pub was_refused : {A : Type 0} (t : Bool) (x : A) (q r : Refusal) → cond t (Ok x) (Err q) ≡ Err r → (r ≡ q) × (t ≡ false)
was_refused true x q r e = let z : ◌≡◌ {A = ℕ} 0 1 = cc in absurd (omega arith)
was_refused false x q r e = (cc, refl)
