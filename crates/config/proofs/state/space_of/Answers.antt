-- `space_of` is one size for every function.
use mathlib.Core.Path.{refl}
use Rattle.config.specs.Space.{space_of}
use Rattle.config.proofs.state.space_of.Goals as goal

pub returns : goal.returns
unfolding space_of
returns c = refl
