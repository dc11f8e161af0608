-- `Aperture::new` refuses exactly by the two tests.
use mathlib.Core.Path.{sym}
use Rattle.bar.proofs.Ranges.{aperture_good, aperture_empty, aperture_past}
use Rattle.bar.proofs.range.Aperture.new.Goals as goal

pub returns-then-end-le-FOUR_GIB : goal.returns-then-end-le-FOUR_GIB
returns-then-end-le-FOUR_GIB c = sym (aperture_good _ _ _ c.if-start-end.true c.if-end-le-FOUR_GIB.true)

pub returns-else-end-le-FOUR_GIB : goal.returns-else-end-le-FOUR_GIB
returns-else-end-le-FOUR_GIB c = sym (aperture_past _ _ _ c.if-end-le-FOUR_GIB.false)

pub returns-else-start-end : goal.returns-else-start-end
returns-else-start-end c = sym (aperture_empty _ _ _ c.if-start-end.false)
