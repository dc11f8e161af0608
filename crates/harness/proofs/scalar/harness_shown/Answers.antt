-- `harness_shown` reads the register.
use mathlib.Core.Path.{◌∙◌}
use Rattle.harness.proofs.scalar.harness_shown.Goals as goal

pub returns : goal.returns
returns c = c.raw_dword.ensures ∙ rw c.bar_with-bar.ensures
