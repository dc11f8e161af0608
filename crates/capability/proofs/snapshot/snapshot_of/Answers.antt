use mathlib.Core.Path.{◌≡◌}
use native.Mathlib.Omega.{arith}
use Rattle.capability.specs.Snapshot.{snapshot_of}
use Rattle.capability.proofs.snapshot.snapshot_of.Goals as goal

pub returns : goal.returns
unfolding snapshot_of
returns c =
    let e : c.loop-k.k ≡ c.body_length-length.result = omega arith in
    rw (c.loop-k.invariant, e, c.body_length-length.ensures, c.body_start-start.ensures.0)
