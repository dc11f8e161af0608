-- A BAR's register: which dwords are addresses, and what they ask for.
use Prim.Native.Nat.{ℕ, ◌+◌, ◌-◌, ◌*◌, ◌/◌, ◌%◌, ◌<◌, ◌≤◌}
use mathlib.Core.Bool.{Bool, true, false, cond}
use mathlib.Core.Path.{◌≡◌, refl, sym, ap, ◌∙◌}
use borrow.Author.Tests.{ne_eqb}
use native.Mathlib.Nat.{div-add-mod', mul_assoc, mul-mod_left}
use native.Mathlib.Omega.{arith}
use lib.Pow.{pow-add}
use Rattle.bar.specs.Range.{four_gib}
use Rattle.bar.specs.Bar.{Sized}
use Rattle.bar.specs.Register.{address_unit, size_mask, candidate, committed, starts_probe, class_of, Address}
use Rattle.bar.specs.declared.bar_state.BarWrite.TheVariants as bar_write
use Rattle.bar.proofs.Sizes.{least_exponent}

pub candidate_le : (d : ℕ) → candidate d ≤ d
unfolding candidate
candidate_le d = omega arith

pub candidate_again : (d : ℕ) → candidate (candidate d) ≡ candidate d
unfolding candidate
candidate_again d = omega arith

pub committed_lt : (a : ℕ) → committed a < four_gib
unfolding committed
committed_lt a = omega (arith, candidate_le (a % four_gib))

-- a mask tells the size
pub mask_size : (size : ℕ) → size ≤ four_gib → four_gib - size_mask size ≡ size
unfolding size_mask
mask_size size h = omega arith

pub mask_lt : (size : ℕ) → 0 < size → size_mask size < four_gib
unfolding size_mask
mask_lt size h = omega arith

pub mask_zero : (size : ℕ) → four_gib ≤ size → size_mask size ≡ 0
unfolding size_mask
mask_zero size h = omega arith

-- the largest dword starts a probe, and no address does
pub all_ones_probe : starts_probe 0xffffffff ≡ true
unfolding starts_probe
all_ones_probe = refl

aligned_quiet : (d : ℕ) → d % address_unit ≡ 0 → starts_probe d ≡ false
unfolding starts_probe
aligned_quiet d h = ne_eqb d 0xffffffff (λ e. omega arith)

-- a multiple of the unit below 4 GiB is an address
pub unit_address : (a : ℕ) → a < four_gib → a % address_unit ≡ 0 → Address a
unfolding committed candidate
unit_address a h k = record { shows = (let e : a % four_gib ≡ a = omega arith in rw e (omega arith)); quiet = aligned_quiet a k }

-- and an address lies below 4 GiB
pub address_lt : (a : ℕ) → Address a → a < four_gib
address_lt a h = omega (arith, committed_lt a, h.shows)

-- so are the candidate of a dword and what a register shows
pub candidate_address : (d : ℕ) → d < four_gib → Address (candidate d)
unfolding candidate
candidate_address d h = unit_address (d / address_unit * address_unit) (omega arith) (omega arith)

pub committed_address : (a : ℕ) → Address (committed a)
unfolding committed
committed_address a = candidate_address (a % four_gib) (omega arith)

-- an address is its own candidate
pub address_candidate : (a : ℕ) → Address a → candidate a ≡ a
unfolding committed
address_candidate a h = let e : a % four_gib ≡ a = omega (arith, address_lt a h) in sym (ap candidate e) ∙ h.shows

-- the sizes of the rule are multiples of the unit, so a multiple of a size is an address where its range ends at 4 GiB at most
size_unit : (size : ℕ) → Sized size → size % address_unit ≡ 0
size_unit size s =
    let k : 4 ≤ s.exponent = least_exponent size s.exponent s.least s.power in
    let e : s.exponent ≡ (s.exponent - 4) + 4 = omega arith in
    rw (s.power, e, pow-add 2 (s.exponent - 4) 4) (omega arith)

times_unit : (n size : ℕ) → size % address_unit ≡ 0 → n * size % address_unit ≡ 0
times_unit n size e =
    let q : size ≡ size / address_unit * address_unit = omega arith in
    rw (q, ← mul_assoc n (size / address_unit) address_unit) (mul-mod_left (n * (size / address_unit)) address_unit)

pub placed_address : (size a : ℕ) → Sized size → a % size ≡ 0 → a + size ≤ four_gib → Address a
placed_address size a s m h =
    let u = size_unit size s in
    let q : a ≡ a / size * size = sym (div-add-mod' a size) ∙ rw m (omega arith) in
    unit_address a (omega (arith, s.least)) (rw q (times_unit (a / size) size u))

pub class_probe : (d : ℕ) → starts_probe d ≡ true → class_of d ≡ bar_write.Probe
unfolding class_of
class_probe d e = rw e

pub class_relocate : (d : ℕ) → starts_probe d ≡ false → class_of d ≡ bar_write.Relocate (candidate d)
unfolding class_of
class_relocate d e = rw e

by_class : (t : Bool) (d a : ℕ) → cond t bar_write.Probe (bar_write.Relocate (candidate d)) ≡ bar_write.Relocate a → a ≡ candidate d
by_class true d a e = let z : ◌≡◌ {A = ℕ} 0 1 = cc in absurd (omega arith)
by_class false d a e = cc

-- the candidate of a relocation
pub class_is : (d a : ℕ) → class_of d ≡ bar_write.Relocate a → a ≡ candidate d
unfolding class_of
class_is d a e = by_class (starts_probe d) d a e
