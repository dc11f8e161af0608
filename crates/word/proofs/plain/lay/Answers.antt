use mathlib.Core.Path.{◌≡◌, refl, sym, ◌∙◌}
use native.Mathlib.Omega.{arith}
use lib.ListN.{length, length-set}
use Rattle.word.proofs.Puts.{laid_none, laid_more, laid_reach}
use Rattle.word.proofs.plain.lay.Goals as goal

pub loop-i-init : goal.loop-i-init
loop-i-init c = (c.reach-many.ensures, sym (laid_none _ _ _), refl)

pub loop-i-preserved : goal.loop-i-preserved
loop-i-preserved c =
    let a = c.args in
    let l = c.loop-i in
    (l.invariant.0, rw l.invariant.1 (laid_more a.bytes.now a.offset a.part.now l.i _ (omega arith) refl), simp length-set l.invariant.2)

pub returns : goal.returns
returns c =
    let a = c.args in
    let l = c.loop-i in
    let e : l.i ≡ c.reach-many.result = omega arith in
    l.invariant.1 ∙ laid_reach a.bytes.now a.offset a.part.now (length a.part.now) l.i (e ∙ l.invariant.0)
