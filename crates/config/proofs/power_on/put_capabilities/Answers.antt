use mathlib.Core.List.{[], ◌∷◌, ◌++◌}
use mathlib.Core.Path.{◌∙◌}
use Rattle.config.specs.PowerOn.{header_fields, body_field}
use Rattle.config.proofs.Fields.{laid_append}
use Rattle.config.proofs.Stages.{laid_first, laid_next}
use Rattle.config.proofs.power_on.put_capabilities.Goals as goal

pub loop-i-init : goal.loop-i-init
loop-i-init c = (laid_first _ _, laid_first _ _)

pub loop-i-preserved : goal.loop-i-preserved
loop-i-preserved c =
    let l = c.loop-i in
    let a = c.args in (
      rw (c.put_body.ensures, c.put_header.ensures, laid_append) (laid_next (λ i. header_fields a.placed i ++ (body_field a.placed a.bodies.now i ∷ [])) a.image.now l.image l.i l.invariant.0),
      c.put_body-in-loop-i.ensures ∙ laid_next (λ i. body_field a.placed a.masks.now i ∷ []) a.mask.now l.mask l.i l.invariant.1,
    )
