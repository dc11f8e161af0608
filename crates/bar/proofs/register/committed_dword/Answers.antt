-- `committed_dword` is the definition.
use mathlib.Core.Path.{refl}
use Rattle.bar.specs.Register.{committed, candidate}
use Rattle.bar.proofs.register.committed_dword.Goals as goal

pub returns : goal.returns
unfolding committed candidate
returns c = refl
