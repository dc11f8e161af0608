-- `multiple` is the remainder; by a size of 0 it is the start itself.
use mathlib.Core.Path.{refl}
use native.Mathlib.Nat.{mod-zero}
use Rattle.bar.specs.Range.{multiple}
use Rattle.bar.proofs.range.Range.multiple.Goals as goal

pub returns-then-self-eq0 : goal.returns-then-self-eq0
unfolding multiple
returns-then-self-eq0 c = rw (c.if-self-eq0.true, mod-zero)

pub returns : goal.returns
unfolding multiple
returns c = refl
