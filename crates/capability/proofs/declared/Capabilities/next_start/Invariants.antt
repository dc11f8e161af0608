-- `next_start`: after i capabilities the next starts at `start`, which is not far.
use Prim.Native.Nat.{◌+◌, ◌*◌, ◌≤◌}
use mathlib.Core.Path.{◌≡◌}
use Rattle.address.specs.Layout.{standard_header_end}
use Rattle.capability.specs.Declaration.{length_at}
use Rattle.capability.specs.Offset.{offset_at}
use Rattle.capability.proofs.declared.Capabilities.next_start.Given as goal

abbrev pub invariant-loop-i : goal.invariant-loop-i
invariant-loop-i l = (l.start ≤ standard_header_end + 260 * l.i) × (l.start ≡ offset_at (length_at l.self) l.i)
