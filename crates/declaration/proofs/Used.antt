-- The steps of a search: whether every slot has a BAR.
use Prim.Native.Nat.{ℕ, ◌+◌, ◌<◌}
use mathlib.Core.Bool.{Bool, true, false}
use mathlib.Core.Logic.{⊎_elim}
use mathlib.Core.Path.{◌≡◌}
use native.Mathlib.Nat.{eq-or-lt_of_le}
use native.Mathlib.Omega.{arith}
use Rattle.word.specs.Search.{all_below}
use Rattle.word.proofs.Tests.{both, never}
use Rattle.word.proofs.Searches.{all_each, each_all}

-- p holds of the first i
module _ (p : ℕ → Bool) where
  pub all_none : all_below p 0 ≡ true
  all_none = each_all p 0 (λ k h. absurd (omega arith))

  pub all_more : (i : ℕ) → all_below p i ≡ true → p i ≡ true → all_below p (i + 1) ≡ true
  all_more i e f =
      each_all p (i + 1) (λ k h. ⊎_elim (λ (q : k ≡ i). rw q f) (λ (l : k < i). all_each p i e k l) (eq-or-lt_of_le {n = k} {m = i} (omega arith)))

  pub all_not : (i n : ℕ) → i < n → p i ≡ false → all_below p n ≡ false
  all_not i n h e = never (all_below p n) (λ t. both (all_each p n t i h) e)
