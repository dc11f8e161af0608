use mathlib.Core.Path.{◌∙◌}
use Rattle.config.specs.State.{bar_at}
use Rattle.config.specs.PowerOn.{bar_field}
use Rattle.config.proofs.Stages.{laid_first, laid_next}
use Rattle.config.proofs.power_on.put_bars.Goals as goal

pub loop-slot-init : goal.loop-slot-init
loop-slot-init c = laid_first _ _

pub loop-slot-preserved : goal.loop-slot-preserved
loop-slot-preserved c =
    let l = c.loop-slot in
    let a = c.args in
    c.put_bar.ensures ∙ laid_next (λ i. bar_field (bar_at a.bars i) i) a.image.now l.image l.slot l.invariant
