-- Images said by fields, place by place: the later field wins, and what no field has stays.
use Prim.Native.Nat.{ℕ, ◌<◌}
use mathlib.Core.Bool.{Bool, true, false, ◌||◌, cond, or_assoc, or-false}
use mathlib.Core.List.{List, [], ◌∷◌, ◌++◌}
use mathlib.Core.Logic.{◌⊎◌, ⊎_elim}
use mathlib.Core.Path.{◌≡◌, refl, sym, ◌∙◌}
use lib.ListN.{length, get_or, set, replicate, length-replicate, get_or-replicate}
use lib.Seq.{ext_get_or}
use Rattle.word.specs.Store.{put_of}
use Rattle.word.proofs.Tests.{true_or_false, both, or_cases}
use Rattle.word.proofs.Tables.{length_table, get_or_table, table_ext, table_set}
use Rattle.word.proofs.Puts.{put_length, put_at}
use Rattle.config.specs.Field.{Field, at, has, byte_at, under, laid, image_of}

-- no field, one field more, one field alone
pub under_end : (b j : ℕ) → under b [] j ≡ b
unfolding under
under_end b j = refl

pub under_more : (b : ℕ) (f : Field) (fs : List Field) (j : ℕ) → under b (f ∷ fs) j ≡ under (cond (has f j) (byte_at f j) b) fs j
unfolding under
under_more b f fs j = refl

pub under_one : (b : ℕ) (f : Field) (j : ℕ) → under b (f ∷ []) j ≡ cond (has f j) (byte_at f j) b
under_one b f j = under_more b f [] j ∙ under_end (cond (has f j) (byte_at f j) b) j

-- fields after fields
pub under_append : (b : ℕ) (fs gs : List Field) (j : ℕ) → under b (fs ++ gs) j ≡ under (under b fs j) gs j
unfolding under
under_append b [] gs j = refl
under_append b (f ∷ fs) gs j = under_append (cond (has f j) (byte_at f j) b) fs gs j

-- whether some field has a byte at j
unfoldable pub any_has : List Field → ℕ → Bool
any_has [] j = false
any_has (f ∷ fs) j = has f j || any_has fs j

pub has_end : (j : ℕ) → any_has [] j ≡ false
unfolding any_has
has_end j = refl

pub has_more : (f : Field) (fs : List Field) (j : ℕ) → any_has (f ∷ fs) j ≡ has f j || any_has fs j
unfolding any_has
has_more f fs j = refl

-- which of two lists has a byte
pub has_append : (fs gs : List Field) (j : ℕ) → any_has (fs ++ gs) j ≡ any_has fs j || any_has gs j
unfolding any_has
has_append [] gs j = refl
has_append (f ∷ fs) gs j = rw (has_append fs gs j) (sym (or_assoc (has f j) (any_has fs j) (any_has gs j)))

pub none_append : (fs gs : List Field) (j : ℕ) → any_has fs j ≡ false → any_has gs j ≡ false → any_has (fs ++ gs) j ≡ false
none_append fs gs j a b = rw (has_append fs gs j, a, b)

pub none_has : {A : Type 0} (j : ℕ) → any_has [] j ≡ true → A
none_has j e = absurd (both e (has_end j))

pub one_has : (f : Field) (j : ℕ) → any_has (f ∷ []) j ≡ true → has f j ≡ true
one_has f j e = rw (has_more f [] j, has_end j, or-false (has f j)) at e

pub first_of : (f : Field) (fs : List Field) (j : ℕ) → any_has (f ∷ fs) j ≡ true → (has f j ≡ true) ⊎ (any_has fs j ≡ true)
first_of f fs j e = or_cases (has f j) (any_has fs j) (rw (has_more f fs j) at e)

pub one_of : (fs gs : List Field) (j : ℕ) → any_has (fs ++ gs) j ≡ true → (any_has fs j ≡ true) ⊎ (any_has gs j ≡ true)
one_of fs gs j e = or_cases (any_has fs j) (any_has gs j) (rw (has_append fs gs j) at e)

-- a byte that no field has stays
pub under_none : (b : ℕ) (fs : List Field) (j : ℕ) → any_has fs j ≡ false → under b fs j ≡ b
unfolding under any_has
under_none b [] j e = refl
under_none b (f ∷ fs) j e =
    ⊎_elim (λ (t : has f j ≡ true). absurd (both {t = true} refl (rw t at e)))
    (λ (t : has f j ≡ false). rw t (under_none b fs j (rw t at e)))
    (true_or_false (has f j))

-- only the part that has a byte matters
pub under_front : (b : ℕ) (fs gs : List Field) (j : ℕ) → any_has gs j ≡ false → under b (fs ++ gs) j ≡ under b fs j
under_front b fs gs j e = under_append b fs gs j ∙ under_none (under b fs j) gs j e

pub under_back : (b : ℕ) (fs gs : List Field) (j : ℕ) → any_has fs j ≡ false → under b (fs ++ gs) j ≡ under b gs j
under_back b fs gs j e = under_append b fs gs j ∙ rw (under_none b fs j e)

pub laid_length : (l : List ℕ) (fs : List Field) → length (laid l fs) ≡ length l
unfolding laid
laid_length l fs = length_table (length l) (λ j. under (get_or l j 0) fs j)

-- what stands at a place
pub laid_at : (l : List ℕ) (fs : List Field) (j : ℕ) → j < length l → get_or (laid l fs) j 0 ≡ under (get_or l j 0) fs j
unfolding laid
laid_at l fs j h = get_or_table (length l) (λ j. under (get_or l j 0) fs j) j 0 h

-- a list with fields laid over it, by its places
pub laid_is : (m l : List ℕ) (fs : List Field) → length m ≡ length l → ((j : ℕ) → j < length l → get_or m j 0 ≡ under (get_or l j 0) fs j) → m ≡ laid l fs
laid_is m l fs e h = ext_get_or 0 m (laid l fs) (e ∙ sym (laid_length l fs)) (λ j b. let k : j < length l = rw e at b in h j k ∙ sym (laid_at l fs j k))

-- two lists of fields that say the same of each place, or of each but one that is set
pub laid_ext : (l : List ℕ) (fs gs : List Field) → ((j : ℕ) → j < length l → under (get_or l j 0) fs j ≡ under (get_or l j 0) gs j) → laid l fs ≡ laid l gs
unfolding laid
laid_ext l fs gs h = table_ext (length l) (λ j. under (get_or l j 0) fs j) (λ j. under (get_or l j 0) gs j) h

pub laid_set : (l : List ℕ) (fs gs : List Field) (i b : ℕ) → i < length l → b ≡ under (get_or l i 0) gs i → ((j : ℕ) → j < length l → (j ≡ i → ⊥) → under (get_or l j 0) fs j ≡ under (get_or l j 0) gs j) → set (laid l fs) i b ≡ laid l gs
unfolding laid
laid_set l fs gs i b h e same = table_set 0 (length l) (λ j. under (get_or l j 0) fs j) (λ j. under (get_or l j 0) gs j) i b h e same

pub laid_none : (l : List ℕ) → laid l [] ≡ l
laid_none l = sym (laid_is l l [] refl (λ j h. sym (under_end (get_or l j 0) j)))

-- one list of fields after another is their join
pub laid_append : (l : List ℕ) (fs gs : List Field) → laid (laid l fs) gs ≡ laid l (fs ++ gs)
laid_append l fs gs =
    laid_is (laid (laid l fs) gs) l (fs ++ gs) (laid_length (laid l fs) gs ∙ laid_length l fs) (λ j h.
    laid_at (laid l fs) gs j (rw (laid_length l fs) h) ∙ rw (laid_at l fs j h) (sym (under_append (get_or l j 0) fs gs j)))

-- bytes that are put are one field
pub laid_put : (l : List ℕ) (o w v : ℕ) → put_of l o w v ≡ laid l (at o w v ∷ [])
laid_put l o w v = laid_is (put_of l o w v) l (at o w v ∷ []) (put_length l o w v) (λ j h. put_at l o w v j h ∙ sym (under_one (get_or l j 0) (at o w v) j))

-- a blank list with fields laid over it is their image
pub laid_blank : (n : ℕ) (fs : List Field) → laid (replicate n 0) fs ≡ image_of n fs
unfolding laid image_of
laid_blank n fs =
    rw (length-replicate {A = ℕ} n 0) (table_ext n (λ j. under (get_or (replicate n 0) j 0) fs j) (under 0 fs) (λ j h. rw (get_or-replicate {A = ℕ} n j 0 0 h)))

pub image_length : (n : ℕ) (fs : List Field) → length (image_of n fs) ≡ n
unfolding image_of
image_length n fs = length_table n (under 0 fs)

-- what stands at a place of an image
pub image_at : (n : ℕ) (fs : List Field) (j : ℕ) → j < n → get_or (image_of n fs) j 0 ≡ under 0 fs j
unfolding image_of
image_at n fs j h = get_or_table n (under 0 fs) j 0 h
