-- `put_lines` writes the line of each key after those of the keys before it.
use Prim.Native.Nat.{◌*◌}
use Rattle.text.specs.Part.{Put}
use Rattle.text.specs.Line.{bar_length}
use Rattle.text.specs.Text.{lines_below}
use Rattle.text.proofs.buffer.Text.put_lines.Given as goal

abbrev pub invariant-loop-key : goal.invariant-loop-key
invariant-loop-key l = Put l.fn.self l.self (l.key * bar_length) (lines_below l.shown l.key)
