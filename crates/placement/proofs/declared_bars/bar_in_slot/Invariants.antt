-- `bar_in_slot`: none of the BARs passed stands at the slot.
use Prim.Native.Nat.{ℕ, ◌<◌}
use mathlib.Core.Bool.{false}
use mathlib.Core.Path.{◌≡◌}
use Rattle.placement.specs.Keys.{stands_at}
use Rattle.placement.proofs.declared_bars.bar_in_slot.Given as goal

abbrev pub invariant-loop-i : goal.invariant-loop-i
invariant-loop-i l = (k : ℕ) → k < l.i → stands_at l.function l.slot k ≡ false
