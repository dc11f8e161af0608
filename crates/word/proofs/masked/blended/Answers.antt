-- `blended` is the definition's own expression.
use mathlib.Core.Path.{refl}
use Rattle.word.specs.Store.{blend}
use Rattle.word.proofs.masked.blended.Goals as goal

pub returns : goal.returns
unfolding blend
returns c = refl
