-- `read_fields`: after k turns the loop stands as the reading does after k fields.
use Prim.Native.Nat.{ℕ, ◌-◌}
use lib.ListN.{length}
use Rattle.address.specs.Limits.{limits}
use Rattle.declaration.proofs.Turns.{After}
use Rattle.declaration.proofs.reading.read_fields.Given as goal

abbrev pub invariant-loop-at : goal.invariant-loop-at
invariant-loop-at l = (k : ℕ) × After limits l.file l.at l.now l.finished k

abbrev pub decreases-loop-at : goal.decreases-loop-at
decreases-loop-at l = length l.file - l.at
