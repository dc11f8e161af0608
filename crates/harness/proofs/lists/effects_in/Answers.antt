use mathlib.Core.Path.{◌≡◌, ◌∙◌}
use native.Mathlib.Omega.{arith}
use Rattle.capability.specs.Effect.{no_effect}
use Rattle.address.specs.Limits.{effect_room}
use Rattle.word.proofs.Tables.{blank_filled, filled_more, filled_all}
use Rattle.harness.specs.Lists.{effects_in}
use Rattle.harness.proofs.lists.effects_in.Goals as goal
use Rattle.harness.proofs.lists.effects_in.Invariants.{place}

pub loop-j-init : goal.loop-j-init
loop-j-init c = rw c.none-none.ensures (blank_filled effect_room (place c.args.effects) no_effect)

pub loop-j-preserved : goal.loop-j-preserved
loop-j-preserved c =
    let l = c.loop-j in
    let effects = c.args.effects in
    rw l.invariant (filled_more effect_room (place effects) no_effect l.j c.effect_taken-effect.result (omega arith) c.effect_taken-effect.ensures)

pub returns : goal.returns
unfolding effects_in
returns c =
    let l = c.loop-j in
    let e : l.j ≡ effect_room = omega arith in
    l.invariant ∙ rw e (filled_all effect_room (place c.args.effects) no_effect)
