-- `reset_answer` at k has seen that no function before k is spent.
use mathlib.Core.Bool.{false}
use mathlib.Core.Path.{◌≡◌}
use Rattle.word.specs.Search.{any_below}
use Rattle.bus.specs.Reset.{spent_at}
use Rattle.bus.proofs.bus_reset.reset_answer.Given as goal

abbrev pub invariant-loop-k : goal.invariant-loop-k
invariant-loop-k l = any_below (spent_at l.bus) l.k ≡ false
