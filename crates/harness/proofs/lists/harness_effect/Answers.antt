-- `harness_effect` adds the effect to what the numbers declare.
use mathlib.Core.Path.{◌∙◌}
use Rattle.harness.specs.Lists.{effect_number}
use Rattle.harness.proofs.lists.harness_effect.Goals as goal

pub returns : goal.returns
unfolding effect_number
returns c =
    c.number.ensures ∙ rw (c.add_effect.ensures, c.declared_in-state.ensures, c.access_taken-access.ensures)
