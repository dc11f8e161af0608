use mathlib.Core.Path.{◌≡◌, refl, ◌∙◌}
use native.Mathlib.Omega.{arith}
use Rattle.placement.specs.Keys.{key_count}
use Rattle.placement.specs.Answer.{addresses_of}
use Rattle.word.proofs.Tables.{blank_filled, filled_more, filled_all}
use Rattle.placement.proofs.answer.addresses_of.Goals as goal
use Rattle.placement.proofs.answer.addresses_of.Invariants.{start}

pub loop-key-init : goal.loop-key-init
loop-key-init c = blank_filled key_count (start c.args.placed) 0

pub loop-key-preserved : goal.loop-key-preserved
loop-key-preserved c =
    let l = c.loop-key in
    let placed = c.args.placed in
    rw l.invariant (filled_more key_count (start placed) 0 l.key (start placed l.key) (omega arith) refl)

pub returns : goal.returns
unfolding addresses_of
returns c =
    let l = c.loop-key in
    let e : l.key ≡ key_count = omega arith in
    l.invariant ∙ rw e (filled_all key_count (start c.args.placed) 0)
