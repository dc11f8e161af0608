-- `put_word` lays one field.
use mathlib.Core.Path.{◌∙◌}
use Rattle.config.proofs.Fields.{laid_put}
use Rattle.config.proofs.image.put_word.Goals as goal

pub returns : goal.returns
returns c = c.put.ensures ∙ laid_put _ _ _ _
