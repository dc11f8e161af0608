-- `candidate_address` is the definition.
use mathlib.Core.Path.{refl}
use Rattle.bar.specs.Register.{candidate}
use Rattle.bar.proofs.register.candidate_address.Goals as goal

pub returns : goal.returns
unfolding candidate
returns c = refl
