-- `plain_read` blanks what an effect would tell.
use Rattle.harness.proofs.function.plain_read.Goals as goal

pub returns : goal.returns
returns c = rw c.none.ensures
