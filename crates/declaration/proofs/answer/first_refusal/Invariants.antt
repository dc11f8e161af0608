-- `first_refusal` passes every function that has no fault.
use Prim.Native.Nat.{ℕ, ◌<◌}
use mathlib.Core.Bool.{false}
use mathlib.Core.Path.{◌≡◌}
use Rattle.declaration.specs.Whole.{faulty}
use Rattle.declaration.proofs.answer.first_refusal.Given as goal

abbrev pub invariant-loop-k : goal.invariant-loop-k
invariant-loop-k l = (j : ℕ) → j < l.k → faulty l.finished j ≡ false
