-- The largest that waits, found key by key, is the next one.
use Prim.Native.Nat.{ℕ, zero, suc, ◌<◌, ◌≤◌}
use mathlib.Core.Bool.{true, false}
use mathlib.Core.List.{List}
use mathlib.Core.Logic.{⊎_elim}
use mathlib.Core.Path.{◌≡◌, sym, subst, ◌∙◌}
use native.Mathlib.Omega.{arith}
use Rattle.std.specs.Prelude.{Option, Some, None}
use Rattle.word.proofs.Tests.{below_or_not, same_or_not, true_or_false, both}
use Rattle.bar.specs.declared.range.Range.{Range}
use Rattle.bar.specs.declared.memory_bar.MemoryBar.{MemoryBar}
use Rattle.placement.specs.Keys.{key_count}
use Rattle.placement.specs.Order.{size_at, comes_before}
use Rattle.placement.specs.Passes.{waits, next_of}
use Rattle.placement.proofs.Nexts.{next_at, next_none}
use Rattle.placement.proofs.Orders.{larger_before, equal_before, before_on}

module _ (bars : List MemoryBar) (placed : List Range) where
  -- the first one among the keys below n, or none where none of these waits
  pub record FirstBelow (n x : ℕ) : Type 0 where
    pub below : x < n
    pub here : waits bars placed x ≡ true
    pub first : (y : ℕ) → y < n → waits bars placed y ≡ true → (y ≡ x → ⊥) → comes_before bars x y ≡ true

  abbrev pub Known : ℕ → Option ℕ → Type 0
  Known n None = (y : ℕ) → y < n → waits bars placed y ≡ false
  Known n (Some x) = FirstBelow n x

  -- a key that does not wait changes nothing
  idle_none : (n : ℕ) → Known n None → waits bars placed n ≡ false → Known (suc n) None
  idle_none n k e y h = ⊎_elim (λ (l : y < n). k y l) (λ (l : n ≤ y). let q : y ≡ n = omega arith in rw q e) (below_or_not y n)

  idle_some : (n x : ℕ) → FirstBelow n x → waits bars placed n ≡ false → FirstBelow (suc n) x
  idle_some n x k e =
      record { below = omega (arith, k.below); here = k.here; first = λ y h w d. ⊎_elim (λ (l : y < n). k.first y l w d) (λ (l : n ≤ y). let q : y ≡ n = omega arith in absurd (both w (rw q e))) (below_or_not y n) }

  pub known_idle : (n : ℕ) (k : Option ℕ) → Known n k → waits bars placed n ≡ false → Known (suc n) k
  known_idle n None k e = idle_none n k e
  known_idle n (Some x) k e = idle_some n x k e

  -- one that waits is the first one where none was known
  pub known_first : (n : ℕ) → Known n None → waits bars placed n ≡ true → Known (suc n) (Some n)
  known_first n k e =
      record { below = omega arith; here = e; first = λ y h w d. ⊎_elim (λ (l : y < n). absurd (both w (k y l))) (λ (l : n ≤ y). absurd (d (omega arith))) (below_or_not y n) }

  -- and where it is larger
  pub known_larger : (n x : ℕ) → Known n (Some x) → waits bars placed n ≡ true → size_at bars x < size_at bars n → Known (suc n) (Some n)
  known_larger n x k e z =
      let b = larger_before bars n x z in
      record {
        below = omega arith;
        here = e;
        first = λ y h w d.
            ⊎_elim (λ (l : y < n). ⊎_elim (λ (q : y ≡ x). rw q b) (λ (q : y ≡ x → ⊥). before_on bars n x y b (k.first y l w q)) (same_or_not y x)) (λ (l : n ≤ y). absurd (d (omega arith))) (below_or_not y n);
      }

  pub known_same : (n x : ℕ) → Known n (Some x) → size_at bars n ≤ size_at bars x → Known (suc n) (Some x)
  known_same n x k z =
      let b : comes_before bars x n ≡ true = ⊎_elim (λ (l : size_at bars n < size_at bars x). larger_before bars x n l) (λ (l : size_at bars x ≤ size_at bars n). equal_before bars x n (omega arith) k.below) (below_or_not (size_at bars n) (size_at bars x)) in
      record { below = omega (arith, k.below); here = k.here; first = λ y h w d. ⊎_elim (λ (l : y < n). k.first y l w d) (λ (l : n ≤ y). let q : y ≡ n = omega arith in rw q b) (below_or_not y n) }

  -- what is known of all keys is the next one
  pub known_next : (k : Option ℕ) → Known key_count k → next_of bars placed ≡ k
  known_next None f = next_none bars placed f
  known_next (Some x) f = next_at bars placed x f.below (record { here = f.here; first = f.first })

  -- there is always something known
  known_more : (n : ℕ) (k : Option ℕ) → Known n k → waits bars placed n ≡ true → (j : Option ℕ) × Known (suc n) j
  known_more n None k e = (Some n, known_first n k e)
  known_more n (Some x) k e =
      ⊎_elim (λ (z : size_at bars x < size_at bars n). (Some n, known_larger n x k e z)) (λ (z : size_at bars n ≤ size_at bars x). (Some x, known_same n x k z)) (below_or_not (size_at bars x) (size_at bars n))

  known_of : (n : ℕ) → (k : Option ℕ) × Known n k
  known_of zero = (None, λ y h. absurd (omega arith))
  known_of (suc n) =
      let k = known_of n in
      ⊎_elim (λ (t : waits bars placed n ≡ true). known_more n k.0 k.1 t) (λ (t : waits bars placed n ≡ false). (k.0, known_idle n k.0 k.1 t)) (true_or_false (waits bars placed n))

  -- where there is no next one, nothing waits
  pub none_waits : next_of bars placed ≡ None → Known key_count None
  none_waits e = let k = known_of key_count in subst (Known key_count) (sym (known_next k.0 k.1) ∙ e) k.1
