-- Tests and what they decide: two orders of numbers, and one Bool of two facts.
use Prim.Native.Nat.{ℕ, ◌<◌, ◌≤◌}
use mathlib.Core.Bool.{Bool, true, false, ◌&&◌, ◌||◌}
use mathlib.Core.Logic.{◌⊎◌, inl, inr}
use mathlib.Core.Path.{◌≡◌, refl}
use native.Mathlib.Omega.{arith}
use borrow.Author.Tests.{ltb-true, ltb-false, eqb-true, eqb-false, lt-ltb}
use lib.Dec.{ltb, eqb}

-- a number is below another or not
by_ltb : (t : Bool) (a b : ℕ) → ltb a b ≡ t → (a < b) ⊎ (b ≤ a)
by_ltb true a b e = inl (ltb-true a b e)
by_ltb false a b e = inr (ltb-false a b e)

pub below_or_not : (a b : ℕ) → (a < b) ⊎ (b ≤ a)
below_or_not a b = by_ltb (ltb a b) a b refl

by_eqb : (t : Bool) (a b : ℕ) → eqb a b ≡ t → (a ≡ b) ⊎ (a ≡ b → ⊥)
by_eqb true a b e = inl (eqb-true a b e)
by_eqb false a b e = inr (eqb-false a b e)

pub same_or_not : (a b : ℕ) → (a ≡ b) ⊎ (a ≡ b → ⊥)
same_or_not a b = by_eqb (eqb a b) a b refl

-- a Bool is true or false
pub true_or_false : (t : Bool) → (t ≡ true) ⊎ (t ≡ false)
true_or_false true = inl refl
true_or_false false = inr refl

-- and not both
pub both : {t : Bool} → t ≡ true → t ≡ false → ⊥
both a b = let z : ◌≡◌ {A = ℕ} 0 1 = cc in absurd (omega arith)

-- one that cannot be true is false
pub never : (t : Bool) → (t ≡ true → ⊥) → t ≡ false
never true h = absurd (h refl)
never false h = refl

-- what both parts of an `and` say, and the whole from both
pub and_left : (a b : Bool) → a && b ≡ true → a ≡ true
and_left true b h = refl
and_left false b h = h

pub and_right : (a b : Bool) → a && b ≡ true → b ≡ true
and_right true b h = h
and_right false true h = refl
and_right false false h = h

-- one of two tests that hold together as an `or`
pub or_cases : (a b : Bool) → a || b ≡ true → (a ≡ true) ⊎ (b ≡ true)
or_cases true b h = inl refl
or_cases false b h = inr h

-- two tests that imply each other are one
pub same_test : (t u : Bool) → (t ≡ true → u ≡ true) → (u ≡ true → t ≡ true) → t ≡ u
same_test true true f g = refl
same_test true false f g = rw (f refl) refl
same_test false true f g = rw (g refl) refl
same_test false false f g = refl

-- so for two orders
pub ltb_same : (a b c d : ℕ) → (a < b → c < d) → (c < d → a < b) → ltb a b ≡ ltb c d
ltb_same a b c d f g = same_test (ltb a b) (ltb c d) (λ e. lt-ltb c d (f (ltb-true a b e))) (λ e. lt-ltb a b (g (ltb-true c d e)))
