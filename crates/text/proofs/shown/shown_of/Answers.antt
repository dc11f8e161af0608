-- `shown_of`: part by part.
use Rattle.text.specs.Text.{shown_of}
use Rattle.text.proofs.shown.shown_of.Goals as goal

pub returns : goal.returns
unfolding shown_of
returns c = rw c.ranges_on.ensures
