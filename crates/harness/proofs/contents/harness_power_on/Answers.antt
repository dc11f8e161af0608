-- `harness_power_on` builds the image of the contents.
use mathlib.Core.Path.{◌∙◌}
use Rattle.harness.proofs.contents.harness_power_on.Goals as goal

pub returns : goal.returns
returns c = c.build.ensures ∙ rw c.contents_of.ensures
