-- `conflict_with` is the library's `find`.
use mathlib.Core.Path.{◌∙◌}
use Rattle.std.proofs.Common.{rules, tests}
use Rattle.std.proofs.lemmas.Iterator.{YieldsList-from_slice}
use Rattle.std.proofs.lemmas.Iterator.Search.{find_from_yields_List}
use Rattle.bar.specs.Range.{meets}
use Rattle.placement.proofs.Skips.{find_clash}
use Rattle.placement.proofs.conflict.conflict_with.Goals as goal

pub returns : goal.returns
returns c =
    let a = c.args in
    find_clash a.range a.placed c.copied.result (c.copied.ensures ∙ find_from_yields_List (meets a.range) _ _ c.find.result c.find.ensures.ran (YieldsList-from_slice a.placed cc) (λ x b q k. search (rules, tests)))
