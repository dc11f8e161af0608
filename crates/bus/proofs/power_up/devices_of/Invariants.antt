-- `devices_of` fills the list function by function.
use mathlib.Core.Path.{◌≡◌}
use Rattle.address.specs.Limits.{function_room}
use Rattle.word.specs.Table.{filled}
use Rattle.bus.specs.Start.{declared_function}
use Rattle.bus.proofs.power_up.devices_of.Given as goal

abbrev pub invariant-loop-k : goal.invariant-loop-k
invariant-loop-k l = l.devices ≡ filled function_room l.k (λ j. (declared_function l.declaration j).device) 0
