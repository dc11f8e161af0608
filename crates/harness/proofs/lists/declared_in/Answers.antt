-- `declared_in`: both lists, and both counts.
use Rattle.harness.specs.Lists.{declared_in}
use Rattle.harness.proofs.lists.declared_in.Goals as goal

pub returns : goal.returns
unfolding declared_in
returns c =
    rw (c.at_most-2.ensures, c.at_most.ensures, c.effects_in-effects.ensures, c.capabilities_in-list.ensures)
