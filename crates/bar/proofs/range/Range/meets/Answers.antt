-- `meets` is the overlap of two intervals.
use Rattle.bar.specs.Range.{meets}
use Rattle.bar.proofs.range.Range.meets.Goals as goal

pub returns : goal.returns
unfolding meets
returns c = c.overlap.ensures
