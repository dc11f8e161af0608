use mathlib.Core.Path.{◌≡◌, refl, sym, ◌∙◌}
use native.Mathlib.Nat.{div-one, div-div-eq-div-mul, pow-suc}
use native.Mathlib.Numerals.{add-one}
use native.Mathlib.Omega.{arith}
use lib.ListN.{length-set}
use Rattle.word.proofs.Puts.{put_none, put_more, put_reach}
use Rattle.word.proofs.plain.put.Goals as goal

pub loop-i-init : goal.loop-i-init
loop-i-init c = (c.reach-many.ensures, sym (div-one _), sym (put_none _ _ _), refl)

pub loop-i-preserved : goal.loop-i-preserved
loop-i-preserved c = let a = c.args in
    let l = c.loop-i in (
      l.invariant.0,
      rw (l.invariant.1, add-one, pow-suc, div-div-eq-div-mul),
      rw l.invariant.2 (put_more a.bytes.now a.offset l.i a.value _ (omega arith) (rw l.invariant.1)),
      simp length-set l.invariant.3,
    )

pub returns : goal.returns
returns c = let a = c.args in
    let l = c.loop-i in
    let e : l.i ≡ c.reach-many.result = omega arith in
    l.invariant.2 ∙ put_reach a.bytes.now a.offset a.width l.i a.value (e ∙ l.invariant.0)
