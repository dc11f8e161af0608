-- `functions_of` fills the list function by function.
use mathlib.Core.Path.{◌≡◌}
use Rattle.address.specs.Limits.{function_room}
use Rattle.word.specs.Table.{filled}
use Rattle.bus.specs.Bus.{no_function_state}
use Rattle.bus.specs.Start.{declared_function, function_start}
use Rattle.bus.proofs.power_up.functions_of.Given as goal

abbrev pub invariant-loop-k : goal.invariant-loop-k
invariant-loop-k l = l.functions ≡ filled function_room l.k (λ j. function_start (declared_function l.declaration j) l.addresses j) no_function_state
