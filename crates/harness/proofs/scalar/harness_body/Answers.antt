-- `harness_body` tells the number of the constructor's answer.
use mathlib.Core.Path.{◌∙◌}
use Rattle.harness.proofs.scalar.harness_body.Goals as goal

pub returns : goal.returns
returns c = c.number.ensures ∙ rw c.new.ensures
