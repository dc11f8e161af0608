use mathlib.Core.Bool.{not}
use mathlib.Core.Path.{ap, ◌≡◌, sym}
use native.Mathlib.Omega.{arith}
use Rattle.word.proofs.Searches.{any_none, any_more}
use Rattle.config.proofs.Placeable.{check_bad, check_good}
use Rattle.config.proofs.config_byte.check_config_bytes.Goals as goal

pub loop-i-init : goal.loop-i-init
loop-i-init c = any_none _

pub returns-then-not-good : goal.returns-then-not-good
returns-then-not-good c =
    sym (check_bad _ _ _ _ (omega (arith, c.byte_count-n.ensures)) c.loop-i.invariant (rw (← c.byte_ok-good.ensures) (ap not c.if-not-good.true)))

pub loop-i-preserved : goal.loop-i-preserved
loop-i-preserved c = any_more _ _ c.loop-i.invariant (rw (← c.byte_ok-good.ensures) (ap not c.if-not-good.false))

pub returns : goal.returns
returns c =
    let e : c.loop-i.i ≡ c.byte_count-n.result = omega arith in
    sym (check_good _ _ _ (rw (← c.byte_count-n.ensures, ← e) c.loop-i.invariant))
