-- `put_revision` finds the function, or there is none.
use mathlib.Core.Path.{sym, ◌∙◌}
use borrow.Author.Rules.{rules}
use Rattle.bus.proofs.Dispatch.{found_index, found_declared, missed_declared}
use Rattle.dialogue.specs.Report.{revision_text}
use Rattle.dialogue.proofs.report.put_revision.Goals as goal

pub returns-in-Some : goal.returns-in-Some
unfolding revision_text
returns-in-Some c =
    let b = c.args.bus in
    let e = sym c.index_of.ensures ∙ c.in-Some.is in
    rw (found_declared b _ _ c.at_most-count.ensures c.in-Some.k e, ← found_index b _ _ c.at_most-count.ensures c.in-Some.k e) (rw c.function_at-function.ensures at c.put_counted.ensures)

pub returns-in-None : goal.returns-in-None
unfolding revision_text
returns-in-None c =
    let m = missed_declared c.args.bus _ _ c.at_most-count.ensures (sym c.index_of.ensures ∙ c.in-None.is) in
    rw m (search rules)
