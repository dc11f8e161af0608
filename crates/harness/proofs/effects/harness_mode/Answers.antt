-- `harness_mode` makes the offset, then asks for the mode.
use Rattle.harness.proofs.effects.harness_mode.Goals as goal

pub returns-in-Some : goal.returns-in-Some
returns-in-Some c = rw (c.mode_number.ensures, c.mode_of.ensures, ← c.new.ensures, c.in-Some.is)

pub returns-in-None : goal.returns-in-None
returns-in-None c = rw (← c.new.ensures, c.in-None.is)
