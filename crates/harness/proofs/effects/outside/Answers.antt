-- `outside` tells its number and blanks.
use Rattle.harness.proofs.effects.outside.Goals as goal

pub returns : goal.returns
returns c = rw c.none.ensures
