-- `put_row_bytes` writes each byte after those before it.
use Prim.Native.Nat.{◌*◌}
use Rattle.text.specs.Part.{parts_below, Put}
use Rattle.dialogue.specs.Dump.{byte_in}
use Rattle.dialogue.proofs.dump.put_row_bytes.Given as goal

abbrev pub invariant-loop-i : goal.invariant-loop-i
invariant-loop-i l = Put l.fn.text l.text (l.i * 3) (parts_below (byte_in l.bus l.k l.row) l.i)
