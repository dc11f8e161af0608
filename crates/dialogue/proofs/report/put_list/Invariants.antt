-- `put_list` writes the line of each capability after those before it.
use Prim.Native.Nat.{◌*◌}
use Rattle.text.specs.Part.{parts_below, Put}
use Rattle.dialogue.specs.Report.{listed_room, listed_in}
use Rattle.dialogue.proofs.report.put_list.Given as goal

abbrev pub invariant-loop-k : goal.invariant-loop-k
invariant-loop-k l = Put l.fn.text l.text (l.k * listed_room) (parts_below (listed_in l.report) l.k)
