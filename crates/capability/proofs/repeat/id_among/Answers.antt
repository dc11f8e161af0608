-- `id_among` is the library's `any`.
use mathlib.Core.Path.{◌≡◌, ◌∙◌}
use native.Mathlib.Omega.{arith}
use lib.Dec.{eqb}
use lib.ListN.{length, take}
use Rattle.std.proofs.Common.{rules, tests}
use Rattle.std.proofs.lemmas.Iterator.{YieldsList-from_slice}
use Rattle.std.proofs.lemmas.Iterator.Search.{any_from_yields_List}
use Rattle.word.proofs.Listed.{any_taken}
use Rattle.word.proofs.Mapped.{long_unmapped}
use Rattle.address.specs.Limits.{effect_room}
use Rattle.capability.specs.Effect.{no_effect}
use Rattle.capability.specs.declared.effect.Effect.{Effect}
use Rattle.capability.proofs.repeat.id_among.Goals as goal

pub returns : goal.returns
returns c =
    let a = c.args in
    let test = λ (e : Effect). eqb e.id a.id in
    let long : length a.effects ≡ effect_room = search (rules, long_unmapped) in
    let h = any_from_yields_List test _ _ c.any.result c.any.ensures.ran (YieldsList-from_slice (take a.count a.effects) cc) (λ x b q k. search (rules, tests)) in
    h ∙ any_taken test no_effect a.effects a.count (omega arith)
