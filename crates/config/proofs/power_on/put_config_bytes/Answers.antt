use mathlib.Core.Path.{◌∙◌}
use mathlib.Core.List.{[], ◌∷◌}
use lib.ListN.{get_or}
use Rattle.config.specs.ConfigByte.{no_config_byte}
use Rattle.config.specs.PowerOn.{config_field}
use Rattle.config.proofs.Stages.{laid_first, laid_next}
use Rattle.config.proofs.power_on.put_config_bytes.Goals as goal

pub loop-i-init : goal.loop-i-init
loop-i-init c = (laid_first _ _, laid_first _ _)

pub loop-i-preserved : goal.loop-i-preserved
loop-i-preserved c =
    let l = c.loop-i in
    let a = c.args in
    let o = c.value-at.ensures in (
      c.put_byte.ensures ∙ rw o (laid_next (λ i. config_field (λ b. b.value) (get_or a.contents.bytes i no_config_byte) ∷ []) a.image.now l.image l.i l.invariant.0),
      c.put_byte-in-loop-i.ensures ∙ rw o (laid_next (λ i. config_field (λ b. b.mask) (get_or a.contents.bytes i no_config_byte) ∷ []) a.mask.now l.mask l.i l.invariant.1),
    )
