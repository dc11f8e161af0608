-- Bytes put in their place, by index.
use Prim.Native.Nat.{ℕ, ◌+◌, ◌-◌, ◌<◌, ◌≤◌, min}
use mathlib.Core.Bool.{cond}
use mathlib.Core.List.{List}
use mathlib.Core.Logic.{⊎_elim}
use mathlib.Core.Path.{◌≡◌, sym, ◌∙◌}
use native.Mathlib.Omega.{arith}
use lib.ListN.{length, get_or, set}
use Rattle.word.specs.Table.{table}
use Rattle.word.specs.Interval.{covers}
use Rattle.word.specs.Number.{byte_of}
use Rattle.word.specs.Store.{put_byte, put_of, laid_byte, laid_over}
use Rattle.word.proofs.Tests.{below_or_not}
use Rattle.word.proofs.Intervals.{covers_in, covers_before, covers_after, covers_same}
use Rattle.word.proofs.Tables.{length_table, get_or_table, table_ext, table_get_d, table_set}

pub put_length : (bytes : List ℕ) (o w v : ℕ) → length (put_of bytes o w v) ≡ length bytes
unfolding put_of
put_length bytes o w v = length_table (length bytes) (put_byte bytes o w v)

-- what stands at a place
pub put_at : (bytes : List ℕ) (o w v j : ℕ) → j < length bytes → get_or (put_of bytes o w v) j 0 ≡ put_byte bytes o w v j
unfolding put_of
put_at bytes o w v j l = get_or_table (length bytes) (put_byte bytes o w v) j 0 l

-- a put of no bytes changes nothing
pub put_none : (bytes : List ℕ) (o v : ℕ) → put_of bytes o 0 v ≡ bytes
unfolding put_of
put_none bytes o v =
    table_ext (length bytes) (put_byte bytes o 0 v) (λ j. get_or bytes j 0) (λ j l.
    ⊎_elim (λ (a : j < o). rw (covers_before o 0 j a)) (λ (a : o ≤ j). rw (covers_after o 0 j (omega arith))) (below_or_not j o)) ∙
    table_get_d 0 bytes

-- one byte more: the step of the loop
pub put_more : (bytes : List ℕ) (o i v b : ℕ) → o + i < length bytes → b ≡ byte_of v i → set (put_of bytes o i v) (o + i) b ≡ put_of bytes o (i + 1) v
unfolding put_of
put_more bytes o i v b l e =
    table_set 0 (length bytes) (put_byte bytes o i v) (put_byte bytes o (i + 1) v) (o + i) b l
    (e ∙ rw (covers_in o (i + 1) (o + i) (omega arith) (omega arith), (let f : o + i - o ≡ i = omega arith in f)))
    (λ k h n. rw (covers_same o i (i + 1) k (λ a. omega arith) (λ a. ⊎_elim (λ (q : k < o + i). q) (λ q. absurd (n (omega arith))) (below_or_not k (o + i)))))

-- places past the end are not put to
pub put_reach : (bytes : List ℕ) (o w n v : ℕ) → n ≡ min w (length bytes - o) → put_of bytes o n v ≡ put_of bytes o w v
unfolding put_of
put_reach bytes o w n v e =
    table_ext (length bytes) (put_byte bytes o n v) (put_byte bytes o w v) (λ j l. rw (covers_same o n w j (λ a. omega arith) (λ a. omega arith)))

-- bytes put into a table are those of the table with these in place
pub put_table : (n : ℕ) (f g : ℕ → ℕ) (o w v : ℕ) → ((j : ℕ) → g j ≡ cond (covers o w j) (byte_of v (j - o)) (f j)) → put_of (table n f) o w v ≡ table n g
unfolding put_of
put_table n f g o w v h =
    rw (length_table n f) (table_ext n (put_byte (table n f) o w v) g (λ j l. rw (get_or_table n f j 0 l) (sym (h j))))

-- the same for a list that is laid over the bytes
module _ (bytes : List ℕ) (o : ℕ) (part : List ℕ) where
  pub laid_length : (w : ℕ) → length (laid_over bytes o w part) ≡ length bytes
  unfolding laid_over
  laid_length w = length_table (length bytes) (laid_byte bytes o w part)

  pub laid_at : (w j : ℕ) → j < length bytes → get_or (laid_over bytes o w part) j 0 ≡ laid_byte bytes o w part j
  unfolding laid_over
  laid_at w j l = get_or_table (length bytes) (laid_byte bytes o w part) j 0 l

  pub laid_none : laid_over bytes o 0 part ≡ bytes
  unfolding laid_over
  laid_none =
      table_ext (length bytes) (laid_byte bytes o 0 part) (λ j. get_or bytes j 0) (λ j l.
      ⊎_elim (λ (a : j < o). rw (covers_before o 0 j a)) (λ (a : o ≤ j). rw (covers_after o 0 j (omega arith))) (below_or_not j o)) ∙
      table_get_d 0 bytes

  pub laid_more : (i b : ℕ) → o + i < length bytes → b ≡ get_or part i 0 → set (laid_over bytes o i part) (o + i) b ≡ laid_over bytes o (i + 1) part
  unfolding laid_over
  laid_more i b l e =
      table_set 0 (length bytes) (laid_byte bytes o i part) (laid_byte bytes o (i + 1) part) (o + i) b l
      (e ∙ rw (covers_in o (i + 1) (o + i) (omega arith) (omega arith), (let f : o + i - o ≡ i = omega arith in f)))
      (λ k h n. rw (covers_same o i (i + 1) k (λ a. omega arith) (λ a. ⊎_elim (λ (q : k < o + i). q) (λ q. absurd (n (omega arith))) (below_or_not k (o + i)))))

  pub laid_reach : (w n : ℕ) → n ≡ min w (length bytes - o) → laid_over bytes o n part ≡ laid_over bytes o w part
  unfolding laid_over
  laid_reach w n e =
      table_ext (length bytes) (laid_byte bytes o n part) (laid_byte bytes o w part) (λ j l. rw (covers_same o n w j (λ a. omega arith) (λ a. omega arith)))
