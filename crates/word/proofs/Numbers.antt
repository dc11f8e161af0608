-- Numbers of little-endian bytes, over the width.
use Prim.Native.Nat.{ℕ, zero, suc, ◌+◌, ◌-◌, ◌*◌, ◌/◌, ◌%◌, ◌^◌, ◌<◌, ◌≤◌, min}
use mathlib.Core.List.{List, [], ◌∷◌}
use mathlib.Core.Logic.{⊎_elim}
use mathlib.Core.Path.{◌≡◌, refl, sym, ap, ◌∙◌}
use native.Mathlib.Nat.{pow-suc, pow-succ', div-one, div-div-eq-div-mul, zero-div, pow-le-pow_right, lt_of_lt_of_le, one-le-pow, min-le_left, min-eq_left, min-eq_right}
use native.Mathlib.Numerals.{add-one}
use native.Mathlib.Omega.{arith}
use lib.Arith.{mod-mul}
use lib.Pow.{pow-add}
use lib.ListN.{length, get_or, take, drop, length-drop, drop_of_length-le}
use lib.Seq.{drop-cons, get_or-drop, take-length, take_all, take-nil}
use Rattle.word.specs.Table.{table}
use Rattle.word.specs.Number.{number, part_of, byte_of, bytes_of, read_at}
use Rattle.word.proofs.Tests.{below_or_not}
use Rattle.word.proofs.Tables.{table_ext, get_or_table}

-- the first k bytes of a list spell a number below 256 ^ k
pub number_take_lt : (k : ℕ) (l : List ℕ) → ((i : ℕ) → get_or l i 0 < 256) → number (take k l) < 256 ^ k
unfolding number
number_take_lt zero l h = omega arith
number_take_lt (suc k) [] h = one-le-pow (suc k) 256 (omega arith)
number_take_lt (suc k) (b ∷ l) h = rw pow-suc (omega (arith, number_take_lt k l (λ i. h (suc i)), h 0))

pub number_lt : (l : List ℕ) → ((i : ℕ) → get_or l i 0 < 256) → number l < 256 ^ length l
number_lt l h = rw (take-length l) at (number_take_lt (length l) l h)

-- a read is below 256 ^ width
pub read_lt : (l : List ℕ) (o w : ℕ) → ((i : ℕ) → get_or l i 0 < 256) → read_at l o w < 256 ^ w
unfolding read_at
read_lt l o w h =
    lt_of_lt_of_le (number_take_lt (min w 8) (drop o l) (λ i. rw get_or-drop (h (o + i)))) (pow-le-pow_right {n = 256} (omega arith) (min-le_left w 8))

-- what is left of at most eight bytes after the first leaves room for one more
pub number_drop_lt : (l : List ℕ) (i : ℕ) → ((k : ℕ) → get_or l k 0 < 256) → length l ≤ 8 → 0 < i → number (drop i l) < 256 ^ 7
number_drop_lt l i h e z =
    let short : length (drop i l) ≤ 7 = rw length-drop (omega arith) in
    lt_of_lt_of_le (number_lt (drop i l) (λ k. rw get_or-drop (h (i + k)))) (pow-le-pow_right {n = 256} (omega arith) short)

-- a read of the part that is there
take_least : (l : List ℕ) (n : ℕ) → take (min n (length l)) l ≡ take n l
take_least l n =
    ⊎_elim (λ (h : n < length l). rw (min-eq_left {n = n} {m = length l} (omega arith)))
    (λ (h : length l ≤ n). rw (min-eq_right {n = length l} {m = n} h, take-length, take_all n l h))
    (below_or_not n (length l))

pub part_there : (l : List ℕ) (o w from to : ℕ) → from ≡ min o (length l) → to ≡ from + min w (length l - from) → take (to - from) (drop from l) ≡ part_of l o w
part_there l o w from to e f =
    let m : to - from ≡ min w (length l - from) = omega arith in
    ⊎_elim (λ (h : o < length l).
    let q : from ≡ o = omega arith in
    rw (m, q, ← length-drop o l, take_least (drop o l) w))
    (λ (h : length l ≤ o).
    let q : length l ≤ from = omega arith in
    rw (drop_of_length-le l q, drop_of_length-le l h, take-nil, take-nil))
    (below_or_not o (length l))

-- one more byte, below those read
pub number_more : (l : List ℕ) (i i' : ℕ) → i < length l → i' ≡ i + 1 → number (drop i l) ≡ number (drop i' l) * 256 + get_or l i 0
unfolding number
number_more l i i' h e = rw (e, add-one, drop-cons l i 0) (omega arith)

bytes_suc : (w v : ℕ) → bytes_of (suc w) v ≡ v % 256 ∷ bytes_of w (v / 256)
unfolding bytes_of table
bytes_suc w v = rw (div-one, table_ext w (λ k. byte_of v (suc k)) (byte_of (v / 256)) (λ k l. rw (pow-succ', ← div-div-eq-div-mul v 256 (256 ^ k))))

number_none : (v : ℕ) → number (bytes_of 0 v) ≡ v % 256 ^ 0
unfolding number bytes_of table
number_none v = omega arith

-- bytes then number is the identity on what the bytes can hold
pub number_bytes : (w v : ℕ) → number (bytes_of w v) ≡ v % 256 ^ w
unfolding number
number_bytes zero v = number_none v
number_bytes (suc w) v = rw (bytes_suc, number_bytes w (v / 256), pow-suc) (omega (arith, mod-mul v {m = 256 ^ w} {c = 256} (one-le-pow w 256 (omega arith)) (omega arith)))

bytes_none : (v : ℕ) → bytes_of 0 v ≡ []
unfolding bytes_of table
bytes_none v = refl

-- and number then bytes is the identity on bytes
pub bytes_number : (w : ℕ) (l : List ℕ) → length l ≡ w → ((i : ℕ) → get_or l i 0 < 256) → bytes_of w (number l) ≡ l
unfolding number
bytes_number zero [] e h = bytes_none 0
bytes_number zero (b ∷ l) e h = absurd (omega arith)
bytes_number (suc w) [] e h = absurd (omega arith)
bytes_number (suc w) (b ∷ l) e h =
    let q : (b + 256 * number l) / 256 ≡ number l = omega (arith, h 0) in
    let r : (b + 256 * number l) % 256 ≡ b = omega (arith, h 0) in
    rw (bytes_suc w (b + 256 * number l), q, r, bytes_number w l (omega arith) (λ i. h (suc i)))

-- the same, at one byte
pub byte_number : (l : List ℕ) (k : ℕ) → k < length l → ((i : ℕ) → get_or l i 0 < 256) → byte_of (number l) k ≡ get_or l k 0
unfolding bytes_of
byte_number l k h b =
    sym (get_or_table (length l) (byte_of (number l)) k 0 h) ∙ ap (λ (m : List ℕ). get_or m k 0) (bytes_number (length l) l refl b)

-- a byte past those of a number is 0
pub byte_past : (v i k : ℕ) → v / 256 ^ i ≡ 0 → i ≤ k → byte_of v k ≡ 0
byte_past v i k e h =
    let d : k ≡ i + (k - i) = omega arith in
    rw (d, pow-add 256 i (k - i), ← div-div-eq-div-mul v (256 ^ i) (256 ^ (k - i)), e, zero-div)
