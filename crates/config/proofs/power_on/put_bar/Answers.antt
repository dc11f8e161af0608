-- `put_bar` lays the register where there is a BAR.
use mathlib.Core.Path.{sym, ◌∙◌}
use borrow.Author.Tests.{eq-eqb, ne_eqb}
use Rattle.config.proofs.Fields.{laid_none, laid_put}
use Rattle.config.proofs.power_on.put_bar.Goals as goal

pub returns-then-bar-eq0 : goal.returns-then-bar-eq0
returns-then-bar-eq0 c = rw (eq-eqb _ _ c.if-bar-eq0.true) (sym (laid_none _))

pub returns : goal.returns
returns c =
    rw (ne_eqb _ _ c.if-bar-eq0.false) (c.put.ensures ∙ rw c.committed_dword.ensures (laid_put _ _ _ _))
