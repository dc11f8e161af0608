use Prim.Native.Nat.{ℕ, ◌+◌}
use mathlib.Core.Path.{◌≡◌, refl, ◌∙◌}
use native.Mathlib.Numerals.{add-one}
use native.Mathlib.Omega.{arith}
use Rattle.word.proofs.Tables.{blank_filled, filled_more, filled_all}
use Rattle.address.specs.Layout.{bar_count}
use Rattle.bus.specs.declared.state.Bus.{Bus}
use Rattle.enumeration.specs.Enumerate.{empty_slot, after_slot, after_slots}
use Rattle.enumeration.proofs.slots.enumerate_slots.Goals as goal
use Rattle.enumeration.proofs.slots.enumerate_slots.Invariants.{slot_at}

next_slot : (b : Bus) (d i : ℕ) → after_slot (after_slots b d i) d i ≡ after_slots b d (i + 1)
unfolding after_slots
next_slot b d i = rw (add-one i)

pub loop-i-init : goal.loop-i-init
unfolding after_slots
loop-i-init c =
    let a = c.args in
    (c.no_slots-slots.ensures ∙ blank_filled bar_count (slot_at a.bus a.device) empty_slot, refl)

pub loop-i-preserved : goal.loop-i-preserved
loop-i-preserved c =
    let l = c.loop-i in
    let a = c.args in
    let done = c.enumerate_slot-done.ensures in (
      rw l.invariant.0 (filled_more bar_count (slot_at a.bus a.device) empty_slot l.i _ (omega arith) (done.0 ∙ rw l.invariant.1)),
      done.1 ∙ rw l.invariant.1 (next_slot a.bus a.device l.i),
    )

pub returns : goal.returns
returns c =
    let l = c.loop-i in
    let a = c.args in
    let e : l.i ≡ bar_count = omega arith in
    (l.invariant.0 ∙ rw e (filled_all bar_count (slot_at a.bus a.device) empty_slot), l.invariant.1 ∙ rw e refl)
