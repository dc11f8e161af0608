-- `check_layout`: the first i capabilities are without fault, and the next starts at `start`, which is not far.
use Prim.Native.Nat.{ℕ, ◌<◌, ◌≤◌}
use mathlib.Core.Path.{◌≡◌}
use Rattle.capability.specs.Declaration.{length_at}
use Rattle.capability.specs.Offset.{offset_at}
use Rattle.capability.proofs.Offsets.{farthest}
use Rattle.capability.proofs.Rulings.{Fine}
use Rattle.capability.proofs.layout.check_layout.Given as goal

abbrev pub invariant-loop-i : goal.invariant-loop-i
invariant-loop-i l = (l.start ≤ farthest l.i) × (l.start ≡ offset_at (length_at l.declared) l.i) × ((j : ℕ) → j < l.i → Fine l.space l.declared j)
