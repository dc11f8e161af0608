-- `bar_with` plans the BAR where it is.
use Rattle.harness.specs.Scalar.{bar_with}
use Rattle.harness.proofs.scalar.bar_with.Goals as goal

pub returns : goal.returns
unfolding bar_with
returns c = rw c.zero.ensures
