-- Two numbers with the same bits are one.
use Prim.Native.Nat.{ℕ, zero, suc, ◌/◌, ◌^◌, ◌<◌}
use mathlib.Core.Path.{◌≡◌}
use native.Mathlib.Nat.{div-one, div-div-eq-div-mul, pow-succ'}
use native.Mathlib.Omega.{arith}
use Rattle.word.specs.Bit.{bit}

-- a bit of a half is the next one of the whole
half_bit : (a i : ℕ) → bit (a / 2) i ≡ bit a (suc i)
half_bit a i = rw (pow-succ' 2 i, ← div-div-eq-div-mul a 2 (2 ^ i))

pub same_bits : (k a b : ℕ) → a < 2 ^ k → b < 2 ^ k → ((i : ℕ) → i < k → bit a i ≡ bit b i) → a ≡ b
same_bits zero a b h l e = omega arith
same_bits (suc k) a b h l e =
    let p = rw pow-succ' at h in
    let q = rw pow-succ' at l in
    let z = rw (div-one a, div-one b) at (e 0 (omega arith)) in
    let r = same_bits k (a / 2) (b / 2) (omega arith) (omega arith) (λ i m. rw (half_bit a i, half_bit b i) (e (suc i) (omega arith))) in
    omega arith
