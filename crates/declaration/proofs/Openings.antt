-- A list with one element more at a place: its length, what stands before, at and after the place, and how a loop makes it.
use Prim.Native.Nat.{ℕ, ◌+◌, ◌-◌, ◌<◌, ◌≤◌}
use mathlib.Core.Bool.{cond}
use mathlib.Core.List.{List}
use mathlib.Core.Logic.{⊎_elim}
use mathlib.Core.Path.{◌≡◌, refl, sym, ap, ◌∙◌}
use native.Mathlib.Omega.{arith}
use borrow.Author.Tests.{lt-ltb, le-ltb, eq-eqb, ne_eqb}
use lib.Dec.{ltb, eqb}
use lib.ListN.{length, get_or, set}
use Rattle.word.specs.Table.{table}
use Rattle.word.proofs.Tables.{length_table, get_or_table, table_ext, table_get_d, table_set}
use Rattle.word.proofs.Tests.{below_or_not, same_or_not, ltb_same}
use Rattle.declaration.specs.Finished.{opened}

module _ {A : Type 0} (blank : A) (l : List A) (p : ℕ) (x : A) where
  abbrev open_at : ℕ → A
  open_at k = cond (ltb k p) (get_or l k blank) (cond (eqb k p) x (get_or l (k - 1) blank))

  pub opened_length : length (opened blank l p x) ≡ length l
  unfolding opened
  opened_length = length_table (length l) open_at

  opened_at : (k : ℕ) → k < length l → get_or (opened blank l p x) k blank ≡ open_at k
  unfolding opened
  opened_at k h = get_or_table (length l) open_at k blank h

  pub opened_before : (k : ℕ) → k < length l → k < p → get_or (opened blank l p x) k blank ≡ get_or l k blank
  opened_before k h b = opened_at k h ∙ rw (lt-ltb k p b)

  pub opened_here : p < length l → get_or (opened blank l p x) p blank ≡ x
  opened_here h = opened_at p h ∙ rw (le-ltb p p (omega arith), eq-eqb p p refl)

  pub opened_after : (k : ℕ) → k < length l → p < k → get_or (opened blank l p x) k blank ≡ get_or l (k - 1) blank
  opened_after k h a = opened_at k h ∙ rw (le-ltb k p (omega arith), ne_eqb k p (λ e. omega arith))

  -- by where an index stands
  pub by_place : (k : ℕ) (P : A → Type 0) → k < length l → (k < p → P (get_or l k blank)) → (k ≡ p → P x) → (p < k → P (get_or l (k - 1) blank)) → P (get_or (opened blank l p x) k blank)
  by_place k P h before here after =
      ⊎_elim (λ (b : k < p). rw (opened_before k h b) (before b))
      (λ (b : p ≤ k).
      ⊎_elim (λ (e : k ≡ p). rw (e, opened_here (omega arith)) (here e)) (λ (o : k ≡ p → ⊥). rw (opened_after k h (omega arith)) (after (omega arith))) (same_or_not k p))
      (below_or_not k p)

-- a loop from the place on opens it: below k the list is open, and from k on as it was
module _ {A : Type 0} (blank : A) (l : List A) (p : ℕ) (x : A) where
  below_at : ℕ → ℕ → A
  below_at k j = cond (ltb j k) (open_at blank l p x j) (get_or l j blank)

  pub opened_below : ℕ → List A
  opened_below k = table (length l) (below_at k)

  -- the element in its place; one more; and the whole list
  pub opened_place : p < length l → set l p x ≡ opened_below (p + 1)
  unfolding opened_below below_at
  opened_place h =
      ap (λ (m : List A). set m p x) (sym (table_get_d blank l)) ∙ table_set blank (length l) (λ j. get_or l j blank) (below_at (p + 1)) p x h (rw (lt-ltb p (p + 1) (omega arith), le-ltb p p (omega arith), eq-eqb p p refl))
      (λ j q o. ⊎_elim (λ (b : j < p). rw (lt-ltb j (p + 1) (omega arith), lt-ltb j p b)) (λ (b : p ≤ j). rw (le-ltb j (p + 1) (omega arith))) (below_or_not j p))

  pub opened_more : (k : ℕ) (b : A) → p < k → k < length l → b ≡ get_or l (k - 1) blank → set (opened_below k) k b ≡ opened_below (k + 1)
  unfolding opened_below below_at
  opened_more k b h m e =
      table_set blank (length l) (below_at k) (below_at (k + 1)) k b m (e ∙ rw (lt-ltb k (k + 1) (omega arith), le-ltb k p (omega arith), ne_eqb k p (λ z. omega arith)))
      (λ j q o. rw (ltb_same j k j (k + 1) (λ z. omega arith) (λ z. ⊎_elim (λ (y : j < k). y) (λ (y : k ≤ j). absurd (o (omega arith))) (below_or_not j k))))

  pub opened_all : opened_below (length l) ≡ opened blank l p x
  unfolding opened opened_below below_at
  opened_all = table_ext (length l) (below_at (length l)) (open_at blank l p x) (λ j h. rw (lt-ltb j (length l) h))
