use mathlib.Core.Path.{sym, ◌∙◌}
use native.Mathlib.Omega.{arith}
use Rattle.config.proofs.Copies.{part_none, part_more, part_reach}
use Rattle.config.proofs.image.copy.Goals as goal

pub loop-i-init : goal.loop-i-init
loop-i-init c = sym (part_none _ _ _ _)

pub loop-i-preserved : goal.loop-i-preserved
loop-i-preserved c =
    let a = c.args in
    let l = c.loop-i in
    rw l.invariant (part_more a.image.now a.offset l.i a.base a.bytes.now c.byte_at.result (omega arith) (c.byte_at.ensures ∙ rw c.past-in-loop-i.ensures))

pub returns : goal.returns
returns c =
    let a = c.args in
    let l = c.loop-i in
    l.invariant ∙ part_reach a.image.now a.offset l.i a.length a.base a.bytes.now (omega arith)
