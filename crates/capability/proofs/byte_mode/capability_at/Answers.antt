-- `capability_at` is the library's `find`.
use mathlib.Core.Path.{refl, sym, ◌∙◌}
use native.Mathlib.Omega.{arith}
use Rattle.std.proofs.Common.{rules, tests}
use Rattle.std.proofs.lemmas.Iterator.{YieldsList-from_range}
use Rattle.std.proofs.lemmas.Iterator.Adapters.{option_map_id}
use Rattle.std.proofs.lemmas.Iterator.Search.{find_from_yields_List}
use Rattle.word.proofs.Listed.{find_range}
use Rattle.capability.specs.Mode.{in_capability, holder_of}
use Rattle.capability.proofs.byte_mode.capability_at.Goals as goal

pub returns : goal.returns
unfolding holder_of
returns c =
    let test = in_capability c.args.placed c.value.result in
    let n = c.capability_count.result in
    let h = find_from_yields_List test _ _ c.find.result c.find.ensures.ran (YieldsList-from_range 0 n n refl (omega arith)) (λ x b q k. search (rules, tests)) in
    sym (option_map_id c.find.result) ∙ h ∙ find_range test n ∙ rw (c.capability_count.ensures, c.value.ensures)
