-- `first_touched` is the library's `find`.
use mathlib.Core.Path.{refl, sym, ◌∙◌}
use native.Mathlib.Omega.{arith}
use Rattle.std.proofs.Common.{rules, tests}
use Rattle.std.proofs.lemmas.Iterator.{YieldsList-from_range}
use Rattle.std.proofs.lemmas.Iterator.Adapters.{option_map_id}
use Rattle.std.proofs.lemmas.Iterator.Search.{find_from_yields_List}
use Rattle.word.proofs.Listed.{find_range}
use Rattle.capability.specs.Owner.{touches, first_touched}
use Rattle.capability.proofs.owner.first_touched.Goals as goal

pub returns : goal.returns
unfolding first_touched
returns c =
    let test = touches c.args.placed c.args.access.offset.0 c.args.access.width in
    let n = c.effect_count.result in
    let h = find_from_yields_List test _ _ c.find.result c.find.ensures.ran (YieldsList-from_range 0 n n refl (omega arith)) (λ x b q k. search (rules, tests)) in
    sym (option_map_id c.find.result) ∙ h ∙ find_range test n ∙ rw c.effect_count.ensures
