-- `slots_used`: each of the first i slots has a BAR.
use mathlib.Core.Bool.{true}
use mathlib.Core.Path.{◌≡◌}
use Rattle.word.specs.Search.{all_below}
use Rattle.declaration.specs.Standing.{slot_used}
use Rattle.declaration.proofs.take_function.slots_used.Given as goal

abbrev pub invariant-loop-i : goal.invariant-loop-i
invariant-loop-i l = all_below (slot_used l.function) l.i ≡ true
