-- `step` turns what `start` answers into a plain struct.
use Rattle.voussglen.proofs.starts.step.Goals as goal

pub returns-in-Ok : goal.returns-in-Ok
returns-in-Ok c = rw (← c.start.ensures, c.in-Ok.is)

pub returns-in-Err : goal.returns-in-Err
returns-in-Err c = rw (c.none-bus.ensures, c.at_place.ensures, c.number.ensures, ← c.start.ensures, c.in-Err.is)
