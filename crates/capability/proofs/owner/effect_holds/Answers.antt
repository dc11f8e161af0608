-- `effect_holds` compares the two intervals without a sum that could wrap.
use mathlib.Core.Path.{sym}
use native.Mathlib.Omega.{arith}
use Rattle.capability.proofs.Regions.{held_past}
use Rattle.capability.proofs.owner.effect_holds.Goals as goal

pub returns-then-length-offset : goal.returns-then-length-offset
returns-then-length-offset c = rw (← c.value-offset.ensures) (sym (held_past _ _ _ _ _ _ c.effect_at-e.ensures c.region_start-start.ensures (omega (arith, c.if-width-eq0.false)) c.if-offset-start.false c.if-length-offset.true))
