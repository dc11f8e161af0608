-- `reset_functions` restores one function after the other.
use mathlib.Core.Path.{◌≡◌}
use Rattle.bus.specs.Reset.{reset_first}
use Rattle.bus.proofs.bus_reset.reset_functions.Given as goal

abbrev pub invariant-loop-k : goal.invariant-loop-k
invariant-loop-k l = l.out ≡ reset_first l.initial.out l.k
