-- `lies_in` compares what the aperture has from the start on with the size.
use mathlib.Core.Path.{sym}
use native.Mathlib.Omega.{arith}
use Rattle.bar.proofs.Ranges.{lies_before, lies_after, lies_rest}
use Rattle.bar.proofs.range.Range.lies_in.Goals as goal

pub returns-then-self-aperture : goal.returns-then-self-aperture
returns-then-self-aperture c = sym (lies_before _ _ c.if-self-aperture.true)

pub returns-then-aperture-self : goal.returns-then-aperture-self
returns-then-aperture-self c = sym (lies_after _ _ (omega arith))

pub returns : goal.returns
returns c = lies_rest _ _ c.if-self-aperture.false c.if-aperture-self.false
