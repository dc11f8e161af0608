-- `no_effect` is all zero.
use Rattle.voussglen.proofs.results.no_effect.Goals as goal

pub returns : goal.returns
returns c = rw c.none.ensures
