-- What holds of every element of a list, its blank past the end too: of blanks, of parts, and of a list with one element more.
use Prim.Native.Nat.{ℕ, ◌+◌, ◌-◌, ◌<◌, ◌≤◌}
use mathlib.Core.Bool.{Bool, true, false, cond}
use mathlib.Core.List.{List}
use mathlib.Core.Logic.{⊎_elim}
use mathlib.Core.Path.{◌≡◌}
use native.Mathlib.Omega.{arith}
use lib.ListN.{length, get_or, take, drop, set, replicate, length-replicate, get_or-replicate, length-take, get_or-eq_default}
use lib.Seq.{set_out, get_or-set_same, get_or-set_other, get_or-take, get_or-drop}
use Rattle.word.specs.Interval.{covers}
use Rattle.word.specs.Number.{part_of}
use Rattle.word.specs.Store.{laid_over, laid_byte}
use Rattle.word.specs.Table.{table}
use Rattle.word.proofs.Tables.{length_table, get_or_table, table_below}
use Rattle.word.proofs.Tests.{same_or_not, below_or_not}
use Rattle.declaration.specs.Good.{Bytes}

module _ {A : Type 0} (d : A) where
  pub blank_at_lem : (n k : ℕ) → get_or (replicate n d) k d ≡ d
  blank_at_lem n k =
      ⊎_elim (λ (h : k < n). get_or-replicate n k d d h) (λ (h : n ≤ k). get_or-eq_default (replicate n d) d {n = k} (rw length-replicate h)) (below_or_not k n)

  pub table_blank_at : (n k : ℕ) → get_or (table n (λ i. d)) k d ≡ d
  table_blank_at n k =
      ⊎_elim (λ (h : k < n). get_or_table n (λ i. d) k d h) (λ (h : n ≤ k). get_or-eq_default (table n (λ i. d)) d {n = k} (rw length_table h)) (below_or_not k n)

  pub each_table : (P : A → Type 0) (n : ℕ) → P d → (k : ℕ) → P (get_or (table n (λ i. d)) k d)
  each_table P n p k = rw (table_blank_at n k) p

  pub past_end_lem : (l : List A) (k : ℕ) → length l ≤ k → get_or l k d ≡ d
  past_end_lem l k h = get_or-eq_default l d {n = k} h

  -- one element is changed
  pub each_set : (P : A → Type 0) (l : List A) (i : ℕ) (x : A) → P x → ((k : ℕ) → P (get_or l k d)) → (k : ℕ) → P (get_or (set l i x) k d)
  each_set P l i x p h k =
      ⊎_elim
      (λ (q : k ≡ i). ⊎_elim (λ (b : i < length l). rw (q, get_or-set_same l i x d b) p) (λ (b : length l ≤ i). rw (set_out l i x b) (h k)) (below_or_not i (length l)))
      (λ (q : k ≡ i → ⊥). rw (get_or-set_other l i k x d q) (h k))
      (same_or_not k i)

  -- what was blank from i on is so from the next one on
  pub past_set : (l : List A) (i : ℕ) (x : A) → ((k : ℕ) → i ≤ k → get_or l k d ≡ d) → (k : ℕ) → i + 1 ≤ k → get_or (set l i x) k d ≡ d
  past_set l i x h k b = rw (get_or-set_other l i k x d (λ q. omega arith)) (h k (omega arith))

-- a part of bytes is bytes, and so are bytes with others laid over them
take_bytes : (n : ℕ) (l : List ℕ) → Bytes l → Bytes (take n l)
take_bytes n l h k =
    ⊎_elim (λ (b : k < n). rw (get_or-take n l k 0 b) (h k)) (λ (b : n ≤ k). rw (past_end_lem 0 (take n l) k (rw length-take (omega arith))) (omega arith)) (below_or_not k n)

pub part_bytes : (l : List ℕ) (o n : ℕ) → Bytes l → Bytes (part_of l o n)
part_bytes l o n h = take_bytes n (drop o l) (λ k. rw (get_or-drop o l k 0) (h (o + k)))

below_cond : (t : Bool) (a b : ℕ) → a < 256 → b < 256 → cond t a b < 256
below_cond true a b h k = h
below_cond false a b h k = k

pub laid_bytes : (l : List ℕ) (o n : ℕ) (part : List ℕ) → Bytes l → Bytes part → Bytes (laid_over l o n part)
unfolding laid_over
laid_bytes l o n part h p = table_below (length l) (laid_byte l o n part) 256 (omega arith) (λ k. below_cond (covers o n k) (get_or part (k - o) 0) (get_or l k 0) (p (k - o)) (h k))
