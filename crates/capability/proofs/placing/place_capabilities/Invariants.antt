-- `place_capabilities`: the first i places are filled, and the next capability starts at `start`, which is not far.
use Prim.Native.Nat.{◌≤◌}
use mathlib.Core.Path.{◌≡◌}
use Rattle.word.specs.Table.{filled}
use Rattle.address.specs.Limits.{capability_room}
use Rattle.capability.specs.Declaration.{length_at}
use Rattle.capability.specs.Offset.{offset_at}
use Rattle.capability.specs.Blank.{no_placed_capability}
use Rattle.capability.specs.Layout.{placed_capability}
use Rattle.capability.proofs.Offsets.{farthest}
use Rattle.capability.proofs.placing.place_capabilities.Given as goal

abbrev pub invariant-loop-i : goal.invariant-loop-i
invariant-loop-i l = (l.start ≤ farthest l.i) × (l.start ≡ offset_at (length_at l.declared) l.i) × (l.out ≡ filled capability_room l.i (placed_capability l.declared) no_placed_capability)
