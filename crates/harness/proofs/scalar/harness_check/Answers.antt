-- `harness_check` tells the number of the check's answer.
use mathlib.Core.Path.{◌∙◌}
use Rattle.harness.proofs.scalar.harness_check.Goals as goal

pub returns : goal.returns
returns c = c.number.ensures ∙ rw c.check.ensures
