-- `harness_touch` checks first.
use Rattle.harness.proofs.effects.harness_touch.Goals as goal

pub returns-in-Ok : goal.returns-in-Ok
returns-in-Ok c = rw (c.touch_numbers.ensures, c.effect_for_access.ensures, ← c.check.ensures, c.in-Ok.is)

pub returns-in-Err : goal.returns-in-Err
returns-in-Err c = rw (c.outside.ensures, c.number.ensures, ← c.check.ensures, c.in-Err.is)
