-- What a checked access is: aligned, in the space, and inside one dword.
use Rattle.std.specs.Prelude.{Ok, Err}
use Prim.Native.Nat.{ℕ, ◌+◌, ◌-◌, ◌/◌, ◌%◌, ◌<◌, ◌≤◌}
use mathlib.Core.Bool.{true, false, ◌&&◌, and-false}
use mathlib.Core.Path.{◌≡◌, ap}
use borrow.Author.Tests.{lt-ltb, le-ltb, eq-eqb, ne_eqb, ltb-true, eqb-true}
use native.Mathlib.Omega.{arith}
use lib.Dec.{ltb, eqb}
use Rattle.word.specs.Width.{width_ok}
use Rattle.word.proofs.Tests.{and_left, and_right}
use Rattle.word.proofs.Widths.{by_width, width_pos, width_most}
use Rattle.address.specs.Kinds.{offset}
use Rattle.address.specs.Check.{most_width, access_ok, access, access_of}
use Rattle.address.specs.declared.offset.ConfigOffset.{ConfigOffset}
use Rattle.address.specs.declared.access.Access.{Access}
use Rattle.refusal.proofs.Choices.{was_ok, was_refused}
use Rattle.refusal.specs.declared.refusal.Refusal.{Refusal}
use Rattle.refusal.specs.declared.refusal.Refusal.TheVariants as refusal

-- what the check says of an access that it lets pass
pub record Aligned (space o w : ℕ) : Type 0 where
  pub known : width_ok most_width w ≡ true
  pub below : o < space
  pub multiple : o % w ≡ 0

-- refusal 18 is given exactly where this fails
pub ok_aligned : (space o w : ℕ) → access_ok space o w ≡ true → Aligned space o w
unfolding access_ok
ok_aligned space o w e =
    let r = and_right (width_ok most_width w) (ltb o space && eqb (o % w) 0) e in
    record { known = and_left (width_ok most_width w) (ltb o space && eqb (o % w) 0) e; below = ltb-true o space (and_left (ltb o space) (eqb (o % w) 0) r); multiple = eqb-true (o % w) 0 (and_right (ltb o space) (eqb (o % w) 0) r) }

pub aligned_ok : (space o w : ℕ) → Aligned space o w → access_ok space o w ≡ true
unfolding access_ok
aligned_ok space o w a = rw (a.known, lt-ltb o space a.below, eq-eqb (o % w) 0 a.multiple)

-- what `check` calls good is aligned, and is what was asked
pub access_is : (space a w : ℕ) (o : ConfigOffset) (u : ℕ) → access_of space a w ≡ Ok (access o u) → Aligned space a w × (o ≡ offset a) × (u ≡ w)
unfolding access_of
access_is space a w o u e =
    let r = was_ok (access_ok space a w) (access (offset a) w) (access o u) refusal.BadAccess e in
    (ok_aligned space a w r.1, ap (λ (x : Access). x.offset) r.0, ap (λ (x : Access). x.width) r.0)

pub access_good : (space a w : ℕ) → Aligned space a w → access_of space a w ≡ Ok (access (offset a) w)
unfolding access_of
access_good space a w g = rw (aligned_ok space a w g)

pub access_refused : (space a w : ℕ) → access_ok space a w ≡ false → access_of space a w ≡ Err refusal.BadAccess
unfolding access_of
access_refused space a w e = rw e

-- there is one refusal
pub access_err : (space a w : ℕ) (r : Refusal) → access_of space a w ≡ Err r → r ≡ refusal.BadAccess
unfolding access_of
access_err space a w r e = (was_refused (access_ok space a w) (access (offset a) w) refusal.BadAccess r e).0

-- refused for its width, for its offset, for its alignment
pub refused_width : (space a w : ℕ) → width_ok most_width w ≡ false → access_of space a w ≡ Err refusal.BadAccess
unfolding access_ok
refused_width space a w e = access_refused space a w (rw e)

pub refused_offset : (space a w : ℕ) → space ≤ a → access_of space a w ≡ Err refusal.BadAccess
unfolding access_ok
refused_offset space a w h = access_refused space a w (rw (le-ltb a space h) (and-false (width_ok most_width w)))

pub refused_multiple : (space a w : ℕ) → (a % w ≡ 0 → ⊥) → access_of space a w ≡ Err refusal.BadAccess
unfolding access_ok
refused_multiple space a w h = access_refused space a w (rw (ne_eqb (a % w) 0 h, and-false (ltb a space)) (and-false (width_ok most_width w)))

-- a fact of every checked access, shown at each width
pub by_access : (P : ℕ → Type 0) (space o w : ℕ) → Aligned space o w → (o % 1 ≡ 0 → P 1) → (o % 2 ≡ 0 → P 2) → (o % 4 ≡ 0 → P 4) → P w
by_access P space o w a p1 p2 p4 =
    by_width (λ (w : ℕ). o % w ≡ 0 → w ≤ 4 → P w) (λ e m. p1 e) (λ e m. p2 e) (λ e m. p4 e) (λ e m. absurd (omega arith)) most_width w a.known a.multiple (width_most most_width w a.known)

pub access_width_pos : (space o w : ℕ) → Aligned space o w → 0 < w
access_width_pos space o w a = width_pos most_width w a.known

pub access_width_most : (space o w : ℕ) → Aligned space o w → w ≤ 4
access_width_most space o w a = width_most most_width w a.known

-- it stays within its dword
pub lane_fits : (space o w : ℕ) → Aligned space o w → o % 4 + w ≤ 4
lane_fits space o w a = by_access (λ (w : ℕ). o % 4 + w ≤ 4) space o w a (λ e. omega arith) (λ e. omega arith) (λ e. omega arith)

-- so the Rust's test that an access crosses a dword cannot fire (document 01 leaves it out)
pub no_crossing : (space o w : ℕ) → Aligned space o w → o / 4 ≡ (o + w - 1) / 4
no_crossing space o w a = by_access (λ (w : ℕ). o / 4 ≡ (o + w - 1) / 4) space o w a (λ e. omega arith) (λ e. omega arith) (λ e. omega arith)

-- and within a space of whole dwords
pub end_fits : (space o w : ℕ) → space % 4 ≡ 0 → Aligned space o w → o + w ≤ space
end_fits space o w d a =
    by_access (λ (w : ℕ). o + w ≤ space) space o w a (λ e. omega (arith, a.below)) (λ e. omega (arith, a.below)) (λ e. omega (arith, a.below))
