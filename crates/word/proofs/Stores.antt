-- The store under a mask, by index: the places that it covers are blended, all others stay.
use Prim.Native.Nat.{ℕ, ◌+◌, ◌-◌, ◌<◌, ◌≤◌, min}
use mathlib.Core.Bool.{true, false}
use mathlib.Core.List.{List}
use mathlib.Core.Logic.{◌⊎◌, inl, inr, ⊎_elim}
use mathlib.Core.Path.{◌≡◌, sym, ◌∙◌}
use native.Mathlib.Omega.{arith}
use lib.ListN.{length, get_or, set, get_or-eq_default}
use Rattle.word.specs.Bit.{bit}
use Rattle.word.specs.Interval.{covers}
use Rattle.word.specs.Number.{byte_of}
use Rattle.word.specs.Store.{blend, stored_byte, stored}
use Rattle.word.proofs.Tests.{below_or_not, true_or_false}
use Rattle.word.proofs.Intervals.{covers_in, covers_before, covers_after, covers_same}
use Rattle.word.proofs.Tables.{length_table, get_or_table, table_ext, table_get_d, table_set}
use Rattle.word.proofs.Blends.{blend_none, blend_byte, blend_bit}

-- under a mask of zero nothing is stored
unmasked : (mask live : List ℕ) (o w v j : ℕ) → get_or live j 0 < 256 → get_or mask j 0 ≡ 0 → stored_byte mask live o w v j ≡ get_or live j 0
unmasked mask live o w v j b e =
    ⊎_elim (λ (t : covers o w j ≡ true). rw (t, e) (blend_none (get_or live j 0) (byte_of v (j - o)) b)) (λ (t : covers o w j ≡ false). rw t) (true_or_false (covers o w j))

pub stored_length : (mask live : List ℕ) (o w v : ℕ) → length (stored mask live o w v) ≡ length live
unfolding stored
stored_length mask live o w v = length_table (length live) (stored_byte mask live o w v)

-- what stands at a place
pub stored_at : (mask live : List ℕ) (o w v j : ℕ) → j < length live → get_or (stored mask live o w v) j 0 ≡ stored_byte mask live o w v j
unfolding stored
stored_at mask live o w v j l = get_or_table (length live) (stored_byte mask live o w v) j 0 l

-- a place that the store covers
pub stored_in_lem : (mask live : List ℕ) (o w v j : ℕ) → j < length live → o ≤ j → j < o + w → get_or (stored mask live o w v) j 0 ≡ blend (get_or mask j 0) (get_or live j 0) (byte_of v (j - o))
stored_in_lem mask live o w v j l a b = stored_at mask live o w v j l ∙ rw (covers_in o w j a b)

-- and one that it does not
outside : (mask live : List ℕ) (o w v j : ℕ) → (j < o) ⊎ (o + w ≤ j) → stored_byte mask live o w v j ≡ get_or live j 0
outside mask live o w v j h = ⊎_elim (λ a. rw (covers_before o w j a)) (λ a. rw (covers_after o w j a)) h

pub stored_out : (mask live : List ℕ) (o w v j : ℕ) → j < length live → (j < o) ⊎ (o + w ≤ j) → get_or (stored mask live o w v) j 0 ≡ get_or live j 0
stored_out mask live o w v j l h = stored_at mask live o w v j l ∙ outside mask live o w v j h

-- a place whose mask is zero stays, covered or not
pub stored_unmasked : (mask live : List ℕ) (o w v j : ℕ) → j < length live → get_or live j 0 < 256 → get_or mask j 0 ≡ 0 → get_or (stored mask live o w v) j 0 ≡ get_or live j 0
stored_unmasked mask live o w v j l b e = stored_at mask live o w v j l ∙ unmasked mask live o w v j b e

-- bytes stay bytes
pub stored_byte_lem : (mask live : List ℕ) (o w v j : ℕ) → ((k : ℕ) → get_or mask k 0 < 256) → ((k : ℕ) → get_or live k 0 < 256) → get_or (stored mask live o w v) j 0 < 256
stored_byte_lem mask live o w v j m b =
    ⊎_elim (λ (l : j < length live). rw (stored_at mask live o w v j l) (⊎_elim (λ t. rw t (blend_byte _ _ _ (m j))) (λ t. rw t (b j)) (true_or_false (covers o w j))))
    (λ (l : length live ≤ j). rw (get_or-eq_default (stored mask live o w v) 0 {n = j} (rw stored_length l)) (omega arith))
    (below_or_not j (length live))

-- a store of no bytes changes nothing
pub stored_none : (mask live : List ℕ) (o v : ℕ) → stored mask live o 0 v ≡ live
unfolding stored
stored_none mask live o v =
    table_ext (length live) (stored_byte mask live o 0 v) (λ j. get_or live j 0) (λ j l. outside mask live o 0 v j (⊎_elim (λ a. inl a) (λ a. inr (omega arith)) (below_or_not j o))) ∙
    table_get_d 0 live

-- one byte more: the step of the loop
pub stored_more : (mask live : List ℕ) (o i v b : ℕ) → o + i < length live → b ≡ blend (get_or mask (o + i) 0) (get_or (stored mask live o i v) (o + i) 0) (byte_of v i) → set (stored mask live o i v) (o + i) b ≡ stored mask live o (i + 1) v
unfolding stored
stored_more mask live o i v b l e =
    table_set 0 (length live) (stored_byte mask live o i v) (stored_byte mask live o (i + 1) v) (o + i) b l
    (e ∙ rw (stored_out mask live o i v (o + i) l (inr (omega arith)), covers_in o (i + 1) (o + i) (omega arith) (omega arith), (let f : o + i - o ≡ i = omega arith in f)))
    (λ k h n. rw (covers_same o i (i + 1) k (λ a. omega arith) (λ a. ⊎_elim (λ (q : k < o + i). q) (λ q. absurd (n (omega arith))) (below_or_not k (o + i)))))

-- places past the end of either list are not stored to
pub stored_reach : (mask live : List ℕ) (o w n v : ℕ) → ((j : ℕ) → get_or live j 0 < 256) → n ≡ min (min w (length live - o)) (length mask - o) → stored mask live o n v ≡ stored mask live o w v
unfolding stored
stored_reach mask live o w n v h e =
    table_ext (length live) (stored_byte mask live o n v) (stored_byte mask live o w v) (λ j l.
    ⊎_elim (λ (m : j < length mask). rw (covers_same o n w j (λ a. omega arith) (λ a. omega arith)))
    (λ (m : length mask ≤ j).
    let z : get_or mask j 0 ≡ 0 = get_or-eq_default mask 0 m in
    unmasked mask live o n v j (h j) z ∙ sym (unmasked mask live o w v j (h j) z))
    (below_or_not j (length mask)))

-- past the end there is nothing
pub stored_past : (mask live : List ℕ) (o w v j : ℕ) → length live ≤ j → get_or (stored mask live o w v) j 0 ≡ 0
stored_past mask live o w v j h = get_or-eq_default (stored mask live o w v) 0 {n = j} (rw stored_length h)

-- a bit whose mask bit is 0 stays
pub stored_bit : (mask live : List ℕ) (o w v j i : ℕ) → j < length live → get_or mask j 0 < 256 → i < 8 → bit (get_or mask j 0) i ≡ 0 → bit (get_or (stored mask live o w v) j 0) i ≡ bit (get_or live j 0) i
stored_bit mask live o w v j i l m k z =
    rw (stored_at mask live o w v j l)
    (⊎_elim (λ (t : covers o w j ≡ true). rw t (blend_bit (get_or mask j 0) (get_or live j 0) (byte_of v (j - o)) i m k ∙ rw z)) (λ (t : covers o w j ≡ false). rw t) (true_or_false (covers o w j)))
