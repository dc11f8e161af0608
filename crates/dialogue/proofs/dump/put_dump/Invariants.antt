-- `put_dump` writes each function after those before it.
use Prim.Native.Nat.{◌*◌}
use Rattle.text.specs.Part.{parts_below, Put}
use Rattle.dialogue.specs.Dump.{dump_room, function_dump}
use Rattle.dialogue.proofs.dump.put_dump.Given as goal

abbrev pub invariant-loop-k : goal.invariant-loop-k
invariant-loop-k l = Put l.fn.text l.text (l.k * dump_room) (parts_below (function_dump l.bus) l.k)
