-- `starts_probe` is the definition.
use mathlib.Core.Path.{refl}
use Rattle.bar.specs.Register.{starts_probe}
use Rattle.bar.proofs.register.starts_probe.Goals as goal

pub returns : goal.returns
unfolding starts_probe
returns c = refl
