-- `put_slots` writes the line of each slot after those before it.
use Prim.Native.Nat.{◌*◌}
use Rattle.text.specs.Part.{parts_below, Put}
use Rattle.dialogue.specs.Report.{slot_room, slot_in}
use Rattle.dialogue.proofs.report.put_slots.Given as goal

abbrev pub invariant-loop-i : goal.invariant-loop-i
invariant-loop-i l = Put l.fn.text l.text (l.i * slot_room) (parts_below (slot_in l.report) l.i)
