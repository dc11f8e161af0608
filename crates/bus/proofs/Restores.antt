-- Functions restored one after the other.
use Prim.Native.Nat.{ℕ, ◌+◌, ◌<◌, ◌≤◌}
use mathlib.Core.Bool.{cond}
use mathlib.Core.List.{List}
use mathlib.Core.Logic.{⊎_elim}
use mathlib.Core.Path.{◌≡◌, ◌∙◌}
use native.Mathlib.Omega.{arith}
use borrow.Author.Tests.{lt-ltb, le-ltb}
use lib.Dec.{ltb}
use lib.ListN.{length, get_or, set, get_or-eq_default}
use Rattle.word.proofs.Tests.{below_or_not, ltb_same}
use Rattle.word.proofs.Tables.{length_table, table_ext, table_get_d, table_set, get_or_table}
use Rattle.config.specs.Reset.{restored}
use Rattle.config.specs.declared.state.FunctionState.{FunctionState}
use Rattle.bus.specs.Bus.{no_function_state}
use Rattle.bus.specs.Reset.{reset_first}

module _ (l : List FunctionState) where
  -- what stands at an index after the first n
  abbrev after : ℕ → ℕ → FunctionState
  after n k = cond (ltb k n) (restored (get_or l k no_function_state)) (get_or l k no_function_state)

  pub reset_none : reset_first l 0 ≡ l
  unfolding reset_first
  reset_none = table_ext (length l) (after 0) (λ k. get_or l k no_function_state) (λ k h. rw (le-ltb k 0 (omega arith))) ∙ table_get_d no_function_state l

  -- one more: the step of the loop
  pub reset_more : (k : ℕ) (out : List FunctionState) (d s : FunctionState) → k < length l → out ≡ reset_first l k → s ≡ restored (get_or out k d) → set out k s ≡ reset_first l (k + 1)
  unfolding reset_first
  reset_more k out d s h o e =
      let g : get_or out k d ≡ get_or l k no_function_state = rw o (get_or_table (length l) (after k) k d h ∙ rw (le-ltb k k (omega arith))) in
      rw o
      (table_set no_function_state (length l) (after k) (after (k + 1)) k s h (e ∙ rw (g, lt-ltb k (k + 1) (omega arith)))
      (λ i j q. rw (ltb_same i k i (k + 1) (λ a. omega arith) (λ a. ⊎_elim (λ (p : i < k). p) (λ p. absurd (q (omega arith))) (below_or_not i k)))))

  -- every place stays, and the first n hold what is restored
  pub reset_length : (n : ℕ) → length (reset_first l n) ≡ length l
  unfolding reset_first
  reset_length n = length_table (length l) (after n)

  pub reset_at : (n k : ℕ) → k < length l → k < n → get_or (reset_first l n) k no_function_state ≡ restored (get_or l k no_function_state)
  unfolding reset_first
  reset_at n k h m = get_or_table (length l) (after n) k no_function_state h ∙ rw (lt-ltb k n m)

  -- those past the first n stay
  pub reset_past : (n k : ℕ) → n ≤ k → get_or (reset_first l n) k no_function_state ≡ get_or l k no_function_state
  unfolding reset_first
  reset_past n k h =
      ⊎_elim (λ (m : k < length l). get_or_table (length l) (after n) k no_function_state m ∙ rw (le-ltb k n h))
      (λ (m : length l ≤ k). rw (get_or-eq_default (reset_first l n) no_function_state {n = k} (rw (reset_length n) m), get_or-eq_default l no_function_state {n = k} m))
      (below_or_not k (length l))
