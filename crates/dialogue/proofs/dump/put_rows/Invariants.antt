-- `put_rows` writes each line after those before it.
use Prim.Native.Nat.{◌*◌}
use Rattle.text.specs.Part.{parts_below, Put}
use Rattle.dialogue.specs.Dump.{row_room, row_text}
use Rattle.dialogue.proofs.dump.put_rows.Given as goal

abbrev pub invariant-loop-row : goal.invariant-loop-row
invariant-loop-row l = Put l.fn.text l.text (l.row * row_room) (parts_below (row_text l.bus l.k) l.row)
