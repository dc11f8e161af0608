-- `harness_layout` lays out what the numbers declare.
use mathlib.Core.Path.{◌∙◌}
use Rattle.harness.specs.Lists.{lay_out}
use Rattle.harness.proofs.lists.harness_layout.Goals as goal

pub returns : goal.returns
unfolding lay_out
returns c = c.laid_out.ensures ∙ rw (c.layout_capabilities.ensures, c.declared_in.ensures)
