-- A field of a number that no later field lies over: its place reads back as the number.
use Prim.Native.Nat.{ℕ, ◌+◌, ◌-◌, ◌%◌, ◌<◌, ◌≤◌}
use mathlib.Core.Bool.{Bool, true, false, ◌&&◌, ◌||◌, cond, or-true}
use mathlib.Core.List.{List, [], ◌∷◌}
use mathlib.Core.Logic.{⊎_elim}
use mathlib.Core.Path.{◌≡◌, ◌∙◌}
use native.Mathlib.Omega.{arith}
use borrow.Author.Tests.{leb-true}
use lib.Dec.{leb}
use Rattle.word.specs.Interval.{covers}
use Rattle.word.specs.Number.{byte_of}
use Rattle.word.proofs.Tests.{and_left, and_right, or_cases}
use Rattle.word.proofs.Intervals.{covers_in, covers_before, covers_after}
use Rattle.config.specs.Field.{Field, at, part, has, byte_at, under}
use Rattle.config.proofs.Fields.{any_has, has_end, has_more, under_more, under_none}

-- whether a field has none of the w places from o on, and whether no field of a list has one
abbrev apart : Field → ℕ → ℕ → Bool
apart (at s n v) o w = leb (s + n) o || leb (o + w) s
apart (part s n base bytes) o w = leb (s + n) o || leb (o + w) s

unfoldable pub clear : List Field → ℕ → ℕ → Bool
clear [] o w = true
clear (f ∷ fs) o w = apart f o w && clear fs o w

-- a list with a number in the w places from o on, and no later field there
pub data Stands (o w v : ℕ) : List Field → Type 0 where
  here : {fs : List Field} → clear fs o w ≡ true → Stands o w v (at o w v ∷ fs)
  later : {f : Field} {fs : List Field} → Stands o w v fs → Stands o w v (f ∷ fs)

outside : (s n o w j : ℕ) → leb (s + n) o || leb (o + w) s ≡ true → o ≤ j → j < o + w → covers s n j ≡ false
outside s n o w j e a b =
    ⊎_elim (λ (t : leb (s + n) o ≡ true). covers_after s n j (omega (arith, leb-true (s + n) o t)))
    (λ (t : leb (o + w) s ≡ true). covers_before s n j (omega (arith, leb-true (o + w) s t)))
    (or_cases (leb (s + n) o) (leb (o + w) s) e)

apart_none : (f : Field) (o w j : ℕ) → apart f o w ≡ true → o ≤ j → j < o + w → has f j ≡ false
apart_none (at s n v) o w j e a b = outside s n o w j e a b
apart_none (part s n base bytes) o w j e a b = outside s n o w j e a b

pub clear_none : (fs : List Field) (o w j : ℕ) → clear fs o w ≡ true → o ≤ j → j < o + w → any_has fs j ≡ false
unfolding clear
clear_none [] o w j e a b = has_end j
clear_none (f ∷ fs) o w j e a b =
    rw (has_more f fs j, apart_none f o w j (and_left (apart f o w) (clear fs o w) e) a b) (clear_none fs o w j (and_right (apart f o w) (clear fs o w) e) a b)

pub stands_has : {o w v : ℕ} {fs : List Field} (k : ℕ) → Stands o w v fs → k < w → any_has fs (o + k) ≡ true
stands_has {o} {w} {v} k (here {fs} e) h = rw (has_more (at o w v) fs (o + k), covers_in o w (o + k) (omega arith) (omega arith))
stands_has {o} {w} {v} k (later {f} {fs} s) h = rw (has_more f fs (o + k), stands_has k s h) (or-true (has f (o + k)))

-- its bytes are those of the number
pub stands_under : {o w v : ℕ} {fs : List Field} (b k : ℕ) → Stands o w v fs → k < w → under b fs (o + k) ≡ byte_of v k
stands_under {o} {w} {v} b k (here {fs} e) h =
    rw (under_more b (at o w v) fs (o + k), covers_in o w (o + k) (omega arith) (omega arith), (let q : o + k - o ≡ k = omega arith in q)) (under_none (byte_of v k) fs (o + k) (clear_none fs o w (o + k) e (omega arith) (omega arith)))
stands_under {o} {w} {v} b k (later {f} {fs} s) h = under_more b f fs (o + k) ∙ stands_under (cond (has f (o + k)) (byte_at f (o + k)) b) k s h

-- so a field of one byte
one_byte : (v : ℕ) → byte_of v 0 ≡ v % 256
one_byte v = omega arith

pub byte_under : (b o v : ℕ) (fs : List Field) → any_has fs o ≡ false → under b (at o 1 v ∷ fs) o ≡ v % 256
byte_under b o v fs e =
    rw (under_more b (at o 1 v) fs o, covers_in o 1 o (omega arith) (omega arith), (let z : o - o ≡ 0 = omega arith in z)) (under_none (byte_of v 0) fs o e ∙ one_byte v)

pub stands_byte : {o v : ℕ} {fs : List Field} (b : ℕ) → Stands o 1 v fs → under b fs o ≡ v % 256
stands_byte {o} {v} {fs} b s = let z : o + 0 ≡ o = omega arith in rw z at (stands_under b 0 s (omega arith)) ∙ one_byte v
