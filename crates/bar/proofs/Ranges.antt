-- Ranges: what it means to meet, to lie in the aperture, to be a multiple.
use Rattle.std.specs.Prelude.{Ok, Err}
use Prim.Native.Nat.{ℕ, ◌-◌, ◌%◌, ◌<◌, ◌≤◌, min, max}
use mathlib.Core.Bool.{true, false, ◌&&◌, and-false}
use mathlib.Core.Path.{◌≡◌}
use borrow.Author.Tests.{lt-ltb, le-ltb, le-leb, lt-leb, eq-eqb, ltb-true, leb-true, eqb-true}
use native.Mathlib.Omega.{arith}
use lib.Dec.{ltb, leb}
use Rattle.word.proofs.Tests.{and_left, and_right, same_test}
use Rattle.word.proofs.Intervals.{covers_in, covers_within, Meeting, overlap_meeting, meeting_overlap, overlap_common, common_overlap, overlap_sym, overlap_not, apart_overlap}
use Rattle.bar.specs.Range.{end_of, multiple, lies_in, meets, aperture_of}
use Rattle.bar.specs.declared.range.Range.{Range}
use Rattle.bar.specs.declared.range.Aperture.{Aperture}
use Rattle.refusal.proofs.Choices.{was_ok, was_refused}
use Rattle.refusal.specs.declared.refusal.Refusal.{Refusal}
use Rattle.refusal.specs.declared.refusal.Refusal.TheVariants as refusal

-- an address of a range
pub record In (r : Range) (x : ℕ) : Type 0 where
  pub from : r.start ≤ x
  pub below : x < end_of r

-- two ranges meet exactly if some address lies in both
pub meets_common : (r s : Range) → meets r s ≡ true → (x : ℕ) × In r x × In s x
unfolding meets
meets_common r s e =
    let c = overlap_common r.start r.size s.start s.size e in
    let a = covers_within r.start r.size c.0 c.1 in
    let b = covers_within s.start s.size c.0 c.2 in
    (c.0, record { from = a.from; below = a.to }, record { from = b.from; below = b.to })

pub common_meets : (r s : Range) (x : ℕ) → In r x → In s x → meets r s ≡ true
unfolding meets
common_meets r s x a b =
    common_overlap r.start r.size s.start s.size x (covers_in r.start r.size x a.from a.below) (covers_in s.start s.size x b.from b.below)

-- the same by starts and ends
pub meets_meeting : (r s : Range) → meets r s ≡ true → Meeting r.start r.size s.start s.size
unfolding meets
meets_meeting r s e = overlap_meeting r.start r.size s.start s.size e

pub meeting_meets : (r s : Range) → Meeting r.start r.size s.start s.size → meets r s ≡ true
unfolding meets
meeting_meets r s m = meeting_overlap r.start r.size s.start s.size m

pub meets_sym : (r s : Range) → meets r s ≡ meets s r
unfolding meets
meets_sym r s = overlap_sym r.start r.size s.start s.size

-- ranges that do not meet lie one after the other, or one is empty
pub meets_not : (r s : Range) → meets r s ≡ false → min (end_of r) (end_of s) ≤ max r.start s.start
unfolding meets
meets_not r s e = overlap_not r.start r.size s.start s.size e

pub apart : (r s : Range) → min (end_of r) (end_of s) ≤ max r.start s.start → meets r s ≡ false
unfolding meets
apart r s h = apart_overlap r.start r.size s.start s.size h

-- an empty range meets nothing
pub empty_first : (r s : Range) → r.size ≡ 0 → meets r s ≡ false
empty_first r s e = apart r s (omega arith)

pub empty_second : (r s : Range) → s.size ≡ 0 → meets r s ≡ false
empty_second r s e = apart r s (omega arith)

-- a range lies in the aperture: its start and its end do
pub lies : (a : Aperture) (r : Range) → a.start ≤ r.start → end_of r ≤ a.end → lies_in a r ≡ true
unfolding lies_in
lies a r h k = rw (le-leb a.start r.start h, le-leb (end_of r) a.end k)

pub lies_from : (a : Aperture) (r : Range) → lies_in a r ≡ true → a.start ≤ r.start
unfolding lies_in
lies_from a r e = leb-true a.start r.start (and_left (leb a.start r.start) (leb (end_of r) a.end) e)

pub lies_end : (a : Aperture) (r : Range) → lies_in a r ≡ true → end_of r ≤ a.end
unfolding lies_in
lies_end a r e = leb-true (end_of r) a.end (and_right (leb a.start r.start) (leb (end_of r) a.end) e)

pub lies_before : (a : Aperture) (r : Range) → r.start < a.start → lies_in a r ≡ false
unfolding lies_in
lies_before a r h = rw (lt-leb a.start r.start h)

pub lies_after : (a : Aperture) (r : Range) → a.end < end_of r → lies_in a r ≡ false
unfolding lies_in
lies_after a r h = rw (lt-leb (end_of r) a.end h) (and-false (leb a.start r.start))

-- from a start in the aperture on, what is left has to hold the size
pub lies_rest : (a : Aperture) (r : Range) → a.start ≤ r.start → r.start ≤ a.end → leb r.size (a.end - r.start) ≡ lies_in a r
lies_rest a r h k =
    same_test (leb r.size (a.end - r.start)) (lies_in a r) (λ e. lies a r h (omega (arith, leb-true r.size (a.end - r.start) e)))
    (λ e. le-leb r.size (a.end - r.start) (omega (arith, lies_end a r e)))

-- a multiple leaves no remainder
pub multiple_zero : (r : Range) → multiple r ≡ true → r.start % r.size ≡ 0
unfolding multiple
multiple_zero r e = eqb-true (r.start % r.size) 0 e

pub zero_multiple : (r : Range) → r.start % r.size ≡ 0 → multiple r ≡ true
unfolding multiple
zero_multiple r e = eq-eqb (r.start % r.size) 0 e

-- what an accepted aperture is
pub aperture_good : (most start end : ℕ) → start < end → end ≤ most → aperture_of most start end ≡ Ok (record { start = start; end = end })
unfolding aperture_of
aperture_good most start end h k = rw (lt-ltb start end h, le-leb end most k)

pub aperture_empty : (most start end : ℕ) → end ≤ start → aperture_of most start end ≡ Err refusal.BadAperture
unfolding aperture_of
aperture_empty most start end h = rw (le-ltb start end h)

pub aperture_past : (most start end : ℕ) → most < end → aperture_of most start end ≡ Err refusal.BadAperture
unfolding aperture_of
aperture_past most start end h = rw (lt-leb end most h, and-false (ltb start end))

pub aperture_is : (most start end : ℕ) (a : Aperture) → aperture_of most start end ≡ Ok a → (a ≡ record { start = start; end = end }) × (start < end) × (end ≤ most)
unfolding aperture_of
aperture_is most start end a e =
    let r = was_ok (ltb start end && leb end most) (record { start = start; end = end }) a refusal.BadAperture e in
    (r.0, ltb-true start end (and_left (ltb start end) (leb end most) r.1), leb-true end most (and_right (ltb start end) (leb end most) r.1))

pub aperture_refused : (most start end : ℕ) (r : Refusal) → aperture_of most start end ≡ Err r → (r ≡ refusal.BadAperture) × (ltb start end && leb end most ≡ false)
unfolding aperture_of
aperture_refused most start end r e = was_refused (ltb start end && leb end most) (record { start = start; end = end }) refusal.BadAperture r e
