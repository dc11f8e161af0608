-- `checked_bar_range` makes the three checks in order.
use mathlib.Core.Path.{sym, ◌∙◌}
use Rattle.std.specs.Prelude.{Some}
use Rattle.placement.specs.Skip.{Clash}
use Rattle.placement.proofs.Verdicts.{verdict_16}
use Rattle.placement.proofs.Skips.{clash_met}
use Rattle.placement.proofs.fixed.checked_bar_range.Goals as goal

pub returns-in-Some : goal.returns-in-Some
returns-in-Some c =
    let a = c.args in
    let met : Clash a.range a.placed (Some c.in-Some.field-0) = rw c.in-Some.is at c.conflict_with.ensures in
    sym (verdict_16 _ _ _ (sym c.multiple.ensures ∙ c.if-not-multiple.false) (sym c.lies_in.ensures ∙ c.if-not-lies_in.false) (clash_met a.range a.placed c.in-Some.field-0 met))
