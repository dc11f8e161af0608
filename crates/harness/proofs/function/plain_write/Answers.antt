-- `plain_write` blanks what an effect would tell.
use Rattle.harness.proofs.function.plain_write.Goals as goal

pub returns : goal.returns
returns c = rw (c.none.ensures, c.no_body.ensures)
