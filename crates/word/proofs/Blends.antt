-- One byte under a mask, bit by bit: where the mask has a one the bit is the value's, elsewhere the old one's.
use Prim.Native.Nat.{ℕ, zero, suc, ◌-◌, ◌/◌, ◌^◌, ◌<◌}
use mathlib.Core.Bool.{cond}
use mathlib.Core.Path.{◌≡◌, refl, ◌∙◌}
use native.Mathlib.Nat.{div-one, div-div-eq-div-mul, pow-succ', mod-lt}
use native.Mathlib.Omega.{arith}
use lib.Dec.{eqb}
use lib.Bits.{bit_and, bit_or, and_shr, or_shr, and_mod, or_mod, and_mask, and_zero_r, or_zero_r, or_zero_l, or_lt, and_le_r}
use Rattle.word.specs.Bit.{bit}
use Rattle.word.specs.Store.{blend}

-- a byte stays a byte
pub blend_byte : (mask old value : ℕ) → mask < 256 → blend mask old value < 256
unfolding blend
blend_byte mask old value h = or_lt 8 (bit_and old (255 - mask)) (bit_and value mask) (omega (arith, and_le_r old (255 - mask))) (omega (arith, and_le_r value mask))

-- nothing is stored under a mask of zero
pub blend_none : (old value : ℕ) → old < 256 → blend 0 old value ≡ old
unfolding blend
blend_none old value h = rw (and_zero_r, or_zero_r) (and_mask old 8 ∙ omega arith)

-- all is stored under a mask of ones
pub blend_all : (old value : ℕ) → value < 256 → blend 255 old value ≡ value
unfolding blend
blend_all old value h = rw (and_zero_r, or_zero_l) (and_mask value 8 ∙ omega arith)

-- the bits of a complement are the other ones
bit_complement : (k i m : ℕ) → i < k → m < 2 ^ k → bit (2 ^ k - 1 - m) i ≡ 1 - bit m i
bit_complement zero i m h l = absurd (omega arith)
bit_complement (suc k) zero m h l = rw (div-one, div-one, pow-succ') (omega (arith, rw pow-succ' at l))
bit_complement (suc k) (suc i) m h l =
    let half : (2 ^ suc k - 1 - m) / 2 ≡ 2 ^ k - 1 - m / 2 = rw pow-succ' (omega (arith, rw pow-succ' at l)) in
    rw (pow-succ' 2 i, ← div-div-eq-div-mul (2 ^ suc k - 1 - m) 2 (2 ^ i), ← div-div-eq-div-mul m 2 (2 ^ i), half)
    (bit_complement k i (m / 2) (omega arith) (omega (arith, rw pow-succ' at l)))

one_bit : (m o v : ℕ) → m < 2 → o < 2 → v < 2 → bit_or (bit_and o (1 - m)) (bit_and v m) ≡ cond (eqb m 1) v o
one_bit zero zero zero a b c = refl
one_bit zero zero (suc zero) a b c = refl
one_bit zero (suc zero) zero a b c = refl
one_bit zero (suc zero) (suc zero) a b c = refl
one_bit (suc zero) zero zero a b c = refl
one_bit (suc zero) zero (suc zero) a b c = refl
one_bit (suc zero) (suc zero) zero a b c = refl
one_bit (suc zero) (suc zero) (suc zero) a b c = refl
one_bit (suc (suc m)) o v a b c = absurd (omega arith)
one_bit zero (suc (suc o)) v a b c = absurd (omega arith)
one_bit (suc zero) (suc (suc o)) v a b c = absurd (omega arith)
one_bit zero zero (suc (suc v)) a b c = absurd (omega arith)
one_bit zero (suc zero) (suc (suc v)) a b c = absurd (omega arith)
one_bit (suc zero) zero (suc (suc v)) a b c = absurd (omega arith)
one_bit (suc zero) (suc zero) (suc (suc v)) a b c = absurd (omega arith)

bit_of_and : (a b i : ℕ) → bit (bit_and a b) i ≡ bit_and (bit a i) (bit b i)
bit_of_and a b i = rw and_shr (and_mod (a / 2 ^ i) (b / 2 ^ i) 1)

bit_of_or : (a b i : ℕ) → bit (bit_or a b) i ≡ bit_or (bit a i) (bit b i)
bit_of_or a b i = rw or_shr (or_mod (a / 2 ^ i) (b / 2 ^ i) 1)

-- the law that a reader checks `blend` by
pub blend_bit : (mask old value i : ℕ) → mask < 256 → i < 8 → bit (blend mask old value) i ≡ cond (eqb (bit mask i) 1) (bit value i) (bit old i)
unfolding blend
blend_bit mask old value i h l =
    rw (bit_of_or (bit_and old (255 - mask)) (bit_and value mask) i, bit_of_and old (255 - mask) i, bit_of_and value mask i, bit_complement 8 i mask l h)
    (one_bit (bit mask i) (bit old i) (bit value i) (mod-lt _ (omega arith)) (mod-lt _ (omega arith)) (mod-lt _ (omega arith)))
