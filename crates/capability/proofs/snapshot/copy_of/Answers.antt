use mathlib.Core.Path.{◌≡◌}
use native.Mathlib.Omega.{arith}
use Rattle.capability.specs.Snapshot.{copy_of}
use Rattle.capability.proofs.snapshot.copy_of.Goals as goal

pub returns : goal.returns
unfolding copy_of
returns c =
    let e : c.loop-k.k ≡ c.min-length.result = omega arith in
    rw (c.loop-k.invariant, e, c.min-length.ensures)
