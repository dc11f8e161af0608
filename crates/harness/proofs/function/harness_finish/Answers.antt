-- `harness_finish` makes the slot, then finishes the relocation.
use mathlib.Core.Path.{◌∙◌}
use Rattle.harness.proofs.function.harness_finish.Goals as goal

pub returns-in-Ok : goal.returns-in-Ok
returns-in-Ok c = rw (← c.new.ensures, c.in-Ok.is) (c.finish_relocation.ensures ∙ rw c.relocation_of.ensures)

pub returns-in-Err : goal.returns-in-Err
returns-in-Err c = rw (← c.new.ensures, c.in-Err.is)
