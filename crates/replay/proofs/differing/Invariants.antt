-- `differing`: each record adds one at most to what differs, so the sum stays in the count's range.
use Prim.Native.Nat.{◌≤◌}
use Rattle.replay.proofs.differing.Given as goal

abbrev pub invariant-loop-done : goal.invariant-loop-done
invariant-loop-done g l = l.differ ≤ l._done
