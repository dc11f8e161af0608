-- A read of two bytes and of four as a sum; a byte that the list lacks counts as 0.
use Prim.Native.Nat.{ℕ, suc, ◌+◌, ◌*◌, ◌<◌, ◌≤◌}
use mathlib.Core.List.{List}
use mathlib.Core.Logic.{⊎_elim}
use mathlib.Core.Path.{◌≡◌, refl}
use native.Mathlib.Numerals.{add-one}
use native.Mathlib.Omega.{arith}
use lib.ListN.{length, get_or, take, drop, drop_of_length-le, get_or-eq_default}
use lib.Seq.{drop-cons, take-nil}
use Rattle.word.specs.Number.{number, read_at}
use Rattle.word.proofs.Tests.{below_or_not}

module _ (l : List ℕ) where
  first_byte : (n n' o o' : ℕ) → n ≡ suc n' → o' ≡ o + 1 → number (take n (drop o l)) ≡ get_or l o 0 + 256 * number (take n' (drop o' l))
  unfolding number
  first_byte n n' o o' e f =
      ⊎_elim (λ (h : o < length l). rw (e, f, drop-cons l o 0 h, add-one o))
      (λ (h : length l ≤ o). let g : length l ≤ o' = omega arith in rw (e, drop_of_length-le l h, drop_of_length-le l g, take-nil n', get_or-eq_default l 0 h))
      (below_or_not o (length l))

  no_byte : (o : ℕ) → number (take 0 (drop o l)) ≡ 0
  unfolding number
  no_byte o = refl

  pub read_two : (o : ℕ) → read_at l o 2 ≡ get_or l o 0 + 0x100 * get_or l (o + 1) 0
  unfolding read_at
  read_two o = rw (first_byte 2 1 o (o + 1) refl refl, first_byte 1 0 (o + 1) (o + 2) refl (omega arith), no_byte (o + 2)) (omega arith)

  pub read_four : (o : ℕ) → read_at l o 4 ≡ get_or l o 0 + 0x100 * get_or l (o + 1) 0 + 0x10000 * get_or l (o + 2) 0 + 0x1000000 * get_or l (o + 3) 0
  unfolding read_at
  read_four o =
      rw (first_byte 4 3 o (o + 1) refl refl, first_byte 3 2 (o + 1) (o + 2) refl (omega arith), first_byte 2 1 (o + 2) (o + 3) refl (omega arith), first_byte 1 0 (o + 3) (o + 4) refl (omega arith), no_byte (o + 4))
      (omega arith)
