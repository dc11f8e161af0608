-- Lists by index: tables, and lists that a loop fills.
use Prim.Native.Nat.{ℕ, zero, suc, ◌+◌, ◌<◌, ◌≤◌}
use mathlib.Core.Bool.{cond}
use mathlib.Core.List.{List, [], ◌∷◌}
use mathlib.Core.Logic.{⊎_elim}
use mathlib.Core.Path.{◌≡◌, refl, ap, sym, ◌∙◌}
use native.Mathlib.Omega.{arith}
use borrow.Author.Tests.{lt-ltb, le-ltb}
use lib.Dec.{ltb}
use lib.ListN.{length, get_or, set, replicate, length-set, get_or-eq_default}
use lib.Seq.{ext_get_or, get_or-set_same, get_or-set_other}
use Rattle.word.specs.Table.{table, filled}
use Rattle.word.proofs.Tests.{below_or_not, same_or_not, ltb_same}

module _ {A : Type 0} where
  pub length_table : (n : ℕ) (f : ℕ → A) → length (table n f) ≡ n
  unfolding table
  length_table zero f = refl
  length_table (suc n) f = ap suc (length_table n (λ k. f (suc k)))

  -- what stands at an index is what the table's function says
  pub get_or_table : (n : ℕ) (f : ℕ → A) (i : ℕ) (d : A) → i < n → get_or (table n f) i d ≡ f i
  unfolding table
  get_or_table zero f i d h = absurd (omega arith)
  get_or_table (suc n) f zero d h = refl
  get_or_table (suc n) f (suc i) d h = get_or_table n (λ k. f (suc k)) i d (omega arith)

  -- two tables that agree at each index are one
  pub table_ext : (n : ℕ) (f g : ℕ → A) → ((k : ℕ) → k < n → f k ≡ g k) → table n f ≡ table n g
  unfolding table
  table_ext zero f g h = refl
  table_ext (suc n) f g h = rw (h 0 (omega arith), table_ext n (λ k. f (suc k)) (λ k. g (suc k)) (λ k l. h (suc k) (omega arith)))

  -- a list that has at each index what the function says is the table, as an array's `map` and `from_fn` give it
  pub table_by : (n : ℕ) (f : ℕ → A) (d : A) (l : List A) → length l ≡ n → ((k : ℕ) → k < n → get_or l k d ≡ f k) → l ≡ table n f
  table_by n f d l e h =
      ext_get_or d l (table n f) (e ∙ sym (length_table n f)) (λ k i. let k< : k < n = rw e at i in h k k< ∙ sym (get_or_table n f k d k<))

  -- a list is the table of its elements
  pub table_get_d : (d : A) (l : List A) → table (length l) (λ k. get_or l k d) ≡ l
  unfolding table
  table_get_d d [] = refl
  table_get_d d (x ∷ l) = ap (λ (t : List A). x ∷ t) (table_get_d d l)

  -- a table with one element more in its place: one step of a loop that fills it
  pub table_set : (d : A) (n : ℕ) (f g : ℕ → A) (i : ℕ) (b : A) → i < n → b ≡ g i → ((k : ℕ) → k < n → (k ≡ i → ⊥) → f k ≡ g k) → set (table n f) i b ≡ table n g
  table_set d n f g i b h e same =
      ext_get_or d (set (table n f) i b) (table n g) (length-set (table n f) i b ∙ length_table n f ∙ sym (length_table n g)) (λ k l.
      let k< : k < n = rw (length-set (table n f) i b, length_table n f) at l in
      rw (get_or_table n g k d k<)
      (⊎_elim (λ (q : k ≡ i). rw q (get_or-set_same (table n f) i b d (rw (length_table n f) h) ∙ e))
      (λ (q : k ≡ i → ⊥). get_or-set_other (table n f) i k b d q ∙ get_or_table n f k d k< ∙ same k k< q)
      (same_or_not k i)))

-- inside a list it does not matter what is said to stand past its end
pub get_or_inside : {A : Type 0} (l : List A) (i : ℕ) (d e : A) → i < length l → get_or l i d ≡ get_or l i e
get_or_inside [] i d e h = absurd (omega arith)
get_or_inside (x ∷ l) zero d e h = refl
get_or_inside (x ∷ l) (suc i) d e h = get_or_inside l i d e (omega arith)

-- a table of numbers below b has such numbers only, past its end too
pub table_below : (n : ℕ) (f : ℕ → ℕ) (b : ℕ) → 0 < b → ((k : ℕ) → f k < b) → (i : ℕ) → get_or (table n f) i 0 < b
table_below n f b z h i =
    ⊎_elim (λ (l : i < n). rw (get_or_table n f i 0 l) (h i)) (λ (l : n ≤ i). rw (get_or-eq_default (table n f) 0 {n = i} (rw length_table l)) z) (below_or_not i n)

-- n equal elements are a table
pub table_blank : {A : Type 0} (d : A) (n : ℕ) → replicate n d ≡ table n (λ k. d)
unfolding table
table_blank d zero = refl
table_blank {A} d (suc n) = ap (λ (l : List A). d ∷ l) (table_blank d n)

-- a list that is filled from its first place on
module _ {A : Type 0} (n : ℕ) (f : ℕ → A) (blank : A) where
  pub filled_length : (m : ℕ) → length (filled n m f blank) ≡ n
  unfolding filled
  filled_length m = length_table n (λ k. cond (ltb k m) (f k) blank)

  -- what stands at a place that is filled, and at one that is not
  pub filled_at : (m i : ℕ) (d : A) → i < n → i < m → get_or (filled n m f blank) i d ≡ f i
  unfolding filled
  filled_at m i d h l = get_or_table n (λ k. cond (ltb k m) (f k) blank) i d h ∙ rw (lt-ltb i m l)

  pub filled_past : (m i : ℕ) (d : A) → i < n → m ≤ i → get_or (filled n m f blank) i d ≡ blank
  unfolding filled
  filled_past m i d h l = get_or_table n (λ k. cond (ltb k m) (f k) blank) i d h ∙ rw (le-ltb i m l)

  -- with none filled there are blanks alone
  pub filled_none : filled n 0 f blank ≡ table n (λ k. blank)
  unfolding filled
  filled_none = table_ext n (λ k. cond (ltb k 0) (f k) blank) (λ k. blank) (λ k h. rw (le-ltb k 0 (omega arith)))

  pub blank_filled : replicate n blank ≡ filled n 0 f blank
  blank_filled = table_blank blank n ∙ sym filled_none

  -- with all filled none is left
  pub filled_all : filled n n f blank ≡ table n f
  unfolding filled
  filled_all = table_ext n (λ k. cond (ltb k n) (f k) blank) f (λ k h. rw (lt-ltb k n h))

  -- one more: the step of a loop that fills
  pub filled_more : (m : ℕ) (b : A) → m < n → b ≡ f m → set (filled n m f blank) m b ≡ filled n (m + 1) f blank
  unfolding filled
  filled_more m b h e =
      table_set blank n (λ k. cond (ltb k m) (f k) blank) (λ k. cond (ltb k (m + 1)) (f k) blank) m b h (e ∙ rw (lt-ltb m (m + 1) (omega arith)))
      (λ k l q. rw (ltb_same k m k (m + 1) (λ a. omega arith) (λ a. ⊎_elim (λ (p : k < m). p) (λ (p : m ≤ k). absurd (q (omega arith))) (below_or_not k m))))
