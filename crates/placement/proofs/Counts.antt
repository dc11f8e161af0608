-- How many numbers below n answer a question: what falls at each turn of a search or of a pass.
use Prim.Native.Nat.{ℕ, zero, suc, ◌+◌, ◌<◌, ◌≤◌}
use mathlib.Core.Bool.{Bool, true, false, cond}
use mathlib.Core.Logic.{⊎_elim}
use mathlib.Core.Path.{◌≡◌, refl}
use native.Mathlib.Omega.{arith}
use Rattle.word.proofs.Tests.{below_or_not, true_or_false, both}

-- how many numbers below n answer
unfoldable pub counted : (ℕ → Bool) → ℕ → ℕ
counted p zero = 0
counted p (suc n) = cond (p n) (suc (counted p n)) (counted p n)

module _ (p q : ℕ → Bool) (fewer : (i : ℕ) → q i ≡ true → p i ≡ true) where
  step : (n k : ℕ) (t u : Bool) (a b : ℕ) → p n ≡ t → q n ≡ u → k + a ≤ b → k + cond u (suc a) a ≤ cond t (suc b) b
  step n k true true a b e f h = omega arith
  step n k true false a b e f h = omega arith
  step n k false true a b e f h = absurd (both (fewer n f) e)
  step n k false false a b e f h = h

  counted_le : (n : ℕ) → 0 + counted q n ≤ counted p n
  unfolding counted
  counted_le zero = omega arith
  counted_le (suc n) = step n 0 (p n) (q n) (counted q n) (counted p n) refl refl (counted_le n)

  pub counted_less : (i n : ℕ) → i < n → p i ≡ true → q i ≡ false → 1 + counted q n ≤ counted p n
  unfolding counted
  counted_less i zero h e f = absurd (omega arith)
  counted_less i (suc n) h e f =
      ⊎_elim (λ (l : i < n). step n 1 (p n) (q n) (counted q n) (counted p n) refl refl (counted_less i n l e f))
      (λ (l : n ≤ i). let s : n ≡ i = omega arith in rw (s, e, f) (omega (arith, counted_le i)))
      (below_or_not i n)

pub counted_most : (p : ℕ → Bool) (n : ℕ) → counted p n ≤ n
unfolding counted
counted_most p zero = omega arith
counted_most p (suc n) =
    ⊎_elim (λ (t : p n ≡ true). rw t (omega (arith, counted_most p n))) (λ (t : p n ≡ false). rw t (omega (arith, counted_most p n))) (true_or_false (p n))

pub counted_has : (p : ℕ → Bool) (i n : ℕ) → i < n → p i ≡ true → 0 < counted p n
counted_has p i n h e = omega (arith, counted_less p (λ j. false) (λ j t. absurd (both t refl)) i n h e refl)
