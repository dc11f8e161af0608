use Prim.Native.Nat.{◌-◌}
use mathlib.Core.Path.{◌≡◌, sym, ◌∙◌}
use native.Mathlib.Omega.{arith}
use borrow.Author.Tests.{eq-eqb, ne_eqb}
use lib.ListN.{length}
use Rattle.word.proofs.Searches.{any_none, any_more, any_never, least_at, least_none}
use Rattle.command.specs.Command.{word_length}
use Rattle.command.proofs.line.word_length.Goals as goal
use Rattle.command.proofs.line.word_length.Invariants.{blank_at}

pub loop-n-init : goal.loop-n-init
loop-n-init c = any_none (blank_at c.args.line.now c.args.at)

pub returns-then-line-at-eq32 : goal.returns-then-line-at-eq32
unfolding word_length
returns-then-line-at-eq32 c =
    let l = c.loop-n in
    let a = c.args in
    let p = blank_at a.line.now a.at in
    sym (least_at p (length a.line.now - a.at) l.n (omega (arith, c.past-most.ensures)) (eq-eqb _ _ c.if-line-at-eq32.true) (any_never p l.n l.invariant))

pub loop-n-preserved : goal.loop-n-preserved
loop-n-preserved c =
    let l = c.loop-n in
    let a = c.args in
    let p = blank_at a.line.now a.at in
    any_more p l.n l.invariant (ne_eqb _ _ c.if-line-at-eq32.false)

pub returns : goal.returns
unfolding word_length
returns c =
    let l = c.loop-n in
    let a = c.args in
    let p = blank_at a.line.now a.at in
    let e : l.n ≡ length a.line.now - a.at = omega (arith, c.past-most.ensures) in
    c.past-most.ensures ∙ sym (least_none p (length a.line.now - a.at) (any_never p (length a.line.now - a.at) (rw e at l.invariant)))
