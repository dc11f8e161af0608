-- `enumerate_slots` at i has the first i slots, on the bus after them.
use Prim.Native.Nat.{ℕ}
use mathlib.Core.Path.{◌≡◌}
use Rattle.word.specs.Table.{filled}
use Rattle.address.specs.Layout.{bar_count}
use Rattle.bus.specs.declared.state.Bus.{Bus}
use Rattle.enumeration.specs.Enumerate.{empty_slot, slot_read, after_slots}
use Rattle.enumeration.specs.declared.report.SlotReport.{SlotReport}
use Rattle.enumeration.proofs.slots.enumerate_slots.Given as goal

-- what is read of the slot at an index
abbrev pub slot_at : Bus → ℕ → ℕ → SlotReport
slot_at b d k = slot_read (after_slots b d k) d k

abbrev pub invariant-loop-i : goal.invariant-loop-i
invariant-loop-i l = (l.slots ≡ filled bar_count l.i (slot_at l.initial.now l.device) empty_slot) × (l.now ≡ after_slots l.initial.now l.device l.i)
