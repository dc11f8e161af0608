-- `argument_at`: the word ends in the line.
use Prim.Native.Nat.{◌+◌}
use mathlib.Core.Path.{sym, ◌∙◌}
use native.Mathlib.Omega.{arith}
use Rattle.command.proofs.Words.{word_inside, blank_inside}
use Rattle.command.proofs.line.argument_at.Goals as goal

pub overflow_add-result : goal.overflow_add-result
overflow_add-result c =
    let a = c.args in
    let inside = blank_inside a.line.now a.at (sym c.byte_at.ensures ∙ c.if-byte_at-ne32.false) in
    omega (arith, inside, c.word_length-length.ensures, word_inside a.line.now (a.at + 1))
