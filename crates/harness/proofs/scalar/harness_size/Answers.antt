-- `harness_size` tells the number of the constructor's answer.
use mathlib.Core.Path.{◌∙◌}
use Rattle.harness.proofs.scalar.harness_size.Goals as goal

pub returns : goal.returns
returns c = c.number.ensures ∙ rw (c.new.ensures, c.zero.ensures)
