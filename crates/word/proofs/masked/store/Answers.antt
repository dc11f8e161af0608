use Prim.Native.Nat.{◌+◌, ◌<◌}
use mathlib.Core.Path.{◌≡◌, refl, sym, ◌∙◌}
use native.Mathlib.Nat.{div-one, div-div-eq-div-mul, pow-suc}
use native.Mathlib.Numerals.{add-one}
use native.Mathlib.Omega.{arith}
use lib.ListN.{length, length-set}
use Rattle.word.proofs.Stores.{stored_none, stored_more, stored_reach}
use Rattle.word.proofs.masked.store.Goals as goal

pub loop-i-init : goal.loop-i-init
loop-i-init c = (c.reach-many.ensures ∙ rw c.reach.ensures, sym (div-one _), sym (stored_none _ _ _ _), refl)

pub loop-i-preserved : goal.loop-i-preserved
loop-i-preserved c =
    let a = c.args in
    let l = c.loop-i in
    let h : a.offset + l.i < length a.live.now = omega arith in (
      l.invariant.0,
      rw (l.invariant.1, add-one, pow-suc, div-div-eq-div-mul),
      rw l.invariant.2 (stored_more a.mask.now a.live.now a.offset l.i a.value c.blended-b.result h (rw (← l.invariant.2, ← l.invariant.1) c.blended-b.ensures)),
      simp length-set l.invariant.3,
    )

pub returns : goal.returns
returns c =
    let a = c.args in
    let l = c.loop-i in
    let e : l.i ≡ c.reach-many.result = omega arith in
    l.invariant.2 ∙ stored_reach a.mask.now a.live.now a.offset a.width l.i a.value (λ j. (c.slice_known-1.given j).fits) (e ∙ l.invariant.0)
