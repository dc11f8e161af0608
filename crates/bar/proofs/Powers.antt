-- std's test for a power of two, one bit set, is the rule's.
use Rattle.std.proofs.Common.{◌≡◌, ℕ, zero, suc, ◌/◌, ◌%◌, ◌^◌, ◌<◌, ◌≤◌, refl, ◌∙◌, arith}
use Rattle.std.specs.Int.{is_power_of_two}
use Rattle.std.specs.Int.RustNames.{count_ones}
use Rattle.std.proofs.lemmas.Nat.{zero_from_ones}
use lib.Count.{ones_step, ones-le}
use native.Mathlib.Nat.{pow-suc}
use mathlib.Core.Logic.{⊎_elim}
use borrow.Author.Tests.{eq-eqb, eqb-true}
use Rattle.word.proofs.Tests.{below_or_not, same_test}
use Rattle.bar.specs.Bar.{power_of_two}
use Rattle.bar.proofs.Sizes.{exponent_lt, power_has, power_of}

one_bit : (k : ℕ) → count_ones (2 ^ k) ≡ 1
unfolding count_ones
one_bit zero = refl
one_bit (suc k) =
    let e = pow-suc 2 k in
    let h : 2 ^ suc k / 2 ≡ 2 ^ k = omega arith in
    ones_step (2 ^ suc k) ∙ rw (h, one_bit k) (omega arith)

has_power : (d n : ℕ) → n ≤ d → count_ones n ≡ 1 → (k : ℕ) × (n ≡ 2 ^ k)
has_power zero n h e = absurd (omega (arith, ones-le 0 n (omega arith)))
has_power (suc d) n h e =
    let s = ones_step n in
    ⊎_elim (λ (l : n % 2 < 1). let half = has_power d (n / 2) (omega arith) (omega arith) in (suc half.0, omega (arith, half.1, pow-suc 2 half.0)))
    (λ (l : 1 ≤ n % 2). let z = zero_from_ones (n / 2) (omega arith) in (0, omega arith)) (below_or_not (n % 2) 1)

-- of a number of 64 bits
pub power_lem : (n : ℕ) → n < 2 ^ 64 → is_power_of_two n ≡ power_of_two n
power_lem n h =
    same_test (is_power_of_two n) (power_of_two n)
    (λ t. let p = has_power n n (omega arith) (eqb-true (count_ones n) 1 t) in power_of n p.0 p.1 (exponent_lt p.0 n p.1 h))
    (λ t. let p = power_has n t in eq-eqb (count_ones n) 1 (rw p.1 (one_bit p.0)))
