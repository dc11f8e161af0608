-- `write` checks first.
use Rattle.config.specs.Write.{write_of}
use Rattle.config.proofs.write_step.write.Goals as goal

pub returns-in-Ok : goal.returns-in-Ok
unfolding write_of
returns-in-Ok c = rw (← c.space_of.ensures, ← c.check.ensures, c.in-Ok.is) c.write_good.ensures

pub returns-in-Err : goal.returns-in-Err
unfolding write_of
returns-in-Err c = rw (← c.space_of.ensures, ← c.check.ensures, c.in-Err.is) c.refused.ensures
