-- `place_in` passes every function whose device is not higher.
use Prim.Native.Nat.{ℕ, ◌<◌}
use mathlib.Core.Bool.{false}
use mathlib.Core.Path.{◌≡◌}
use lib.Dec.{ltb}
use Rattle.declaration.specs.Finished.{function_at}
use Rattle.declaration.proofs.finished.Finished.place_in.Given as goal

abbrev pub invariant-loop-k : goal.invariant-loop-k
invariant-loop-k l = (j : ℕ) → j < l.k → ltb l.device (function_at l.self j).device ≡ false
