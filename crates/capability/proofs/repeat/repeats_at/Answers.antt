-- `repeats_at` is the library's `any`.
use mathlib.Core.Path.{refl, ◌∙◌}
use native.Mathlib.Omega.{arith}
use Rattle.std.proofs.Common.{rules, tests}
use Rattle.std.proofs.lemmas.Iterator.{YieldsList-from_range}
use Rattle.std.proofs.lemmas.Iterator.Search.{any_from_yields_List}
use Rattle.word.proofs.Listed.{any_range}
use Rattle.capability.specs.Repeat.{repeats, repeats_at}
use Rattle.capability.proofs.repeat.repeats_at.Goals as goal

pub returns : goal.returns
unfolding repeats_at
returns c =
    let test = repeats c.args.declared.effects c.args.capability in
    let n = c.declared_effects.result in
    let h = any_from_yields_List test _ _ c.any.result c.any.ensures.ran (YieldsList-from_range 0 n n refl (omega arith)) (λ x b q k. search (rules, tests)) in
    h ∙ any_range test n ∙ rw c.declared_effects.ensures
