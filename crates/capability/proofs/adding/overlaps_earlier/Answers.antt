-- `overlaps_earlier` is the library's `any`.
use mathlib.Core.Path.{◌≡◌, ◌∙◌}
use native.Mathlib.Omega.{arith}
use lib.ListN.{length, take}
use Rattle.std.proofs.Common.{rules, tests}
use Rattle.std.proofs.lemmas.Iterator.{YieldsList-from_slice}
use Rattle.std.proofs.lemmas.Iterator.Search.{any_from_yields_List}
use Rattle.word.proofs.Listed.{any_taken}
use Rattle.word.proofs.Mapped.{long_unmapped}
use Rattle.address.specs.Limits.{effect_room}
use Rattle.capability.specs.Effect.{no_effect}
use Rattle.capability.specs.BadEffect.{clashes, overlaps_earlier}
use Rattle.capability.specs.declared.effect.Effect.{Effect}
use Rattle.capability.proofs.adding.overlaps_earlier.Goals as goal

pub returns : goal.returns
unfolding overlaps_earlier
returns c =
    let effects = c.args.declared.effects in
    let effect = c.args.effect in
    let n = c.declared_effects-count.result in
    let test = λ (e : Effect). clashes e effect.capability effect.offset effect.length in
    let long : length effects ≡ effect_room = search (rules, long_unmapped) in
    let h = any_from_yields_List test _ _ c.any.result c.any.ensures.ran (YieldsList-from_slice (take n effects) cc) (λ x b q k. search (rules, tests)) in
    h ∙ any_taken test no_effect effects n (omega (arith, c.declared_effects-count.ensures)) ∙ rw c.declared_effects-count.ensures
