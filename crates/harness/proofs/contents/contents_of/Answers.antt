-- `contents_of` copies each part.
use Rattle.harness.specs.Contents.{contents_of}
use Rattle.harness.proofs.contents.contents_of.Goals as goal

pub returns : goal.returns
unfolding contents_of
returns c = rw c.intx_of.ensures
