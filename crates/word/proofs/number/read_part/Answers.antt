-- `read_part` spells the part of the list that is there.
use mathlib.Core.Path.{ap, ◌∙◌}
use Rattle.word.specs.Number.{number, read_at}
use Rattle.word.proofs.number.read_part.Goals as goal

pub returns : goal.returns
unfolding read_at
returns c = c.spelt.ensures ∙ ap number (c.part.ensures ∙ rw c.at_most.ensures)
