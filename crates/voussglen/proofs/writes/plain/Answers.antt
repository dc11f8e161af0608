-- `plain` blanks what an effect would tell.
use Rattle.voussglen.proofs.writes.plain.Goals as goal

pub returns : goal.returns
returns c = rw c.no_effect.ensures
