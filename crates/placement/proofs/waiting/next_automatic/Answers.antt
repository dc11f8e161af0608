use mathlib.Core.Path.{sym, subst, ◌∙◌}
use native.Mathlib.Numerals.{add-one}
use native.Mathlib.Omega.{arith}
use Rattle.placement.proofs.Largests.{Known, known_idle, known_first, known_larger, known_same, known_next}
use Rattle.placement.proofs.waiting.next_automatic.Goals as goal
use Rattle.placement.proofs.waiting.next_automatic.Goals.{then-waits+in-None, then-waits+in-Some+then-size, then-waits+in-Some+else-size, else-waits}

pub loop-key-preserved : goal.loop-key-preserved
loop-key-preserved c =
    let a = c.args in
    let l = c.loop-key in
    let before : Known a.bars a.placed l.key l.next = l.invariant in
    rw add-one (elim c.if-waits.branch [
      | then-waits+in-None w ↦ rw w.next-is (known_first a.bars a.placed l.key (rw w.in-None.is at before) (sym c.waits.ensures ∙ w.if-waits.true))
      | then-waits+in-Some+then-size w ↦ rw w.next-is (known_larger a.bars a.placed l.key _ (rw w.in-Some.is at before) (sym c.waits.ensures ∙ w.if-waits.true) (omega (arith, w.size.ensures, w.size-in-Some.ensures)))
      | then-waits+in-Some+else-size w ↦ rw w.next-is (known_same a.bars a.placed l.key _ (rw w.in-Some.is at before) (omega (arith, w.size.ensures, w.size-in-Some.ensures)))
      | else-waits w ↦ rw w.next-is (known_idle a.bars a.placed l.key l.next before (sym c.waits.ensures ∙ w.if-waits.false))
    ])

pub returns : goal.returns
returns c = sym (known_next c.args.bars c.args.placed c.loop-key.next (subst (λ n. Known c.args.bars c.args.placed n c.loop-key.next) (omega arith) c.loop-key.invariant))
