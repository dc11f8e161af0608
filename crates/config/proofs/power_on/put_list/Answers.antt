-- `put_list` lays two fields with any capability, none without.
use mathlib.Core.Path.{sym}
use borrow.Author.Tests.{eq-eqb, ne_eqb}
use Rattle.config.proofs.Fields.{laid_none, laid_append, laid_put}
use Rattle.config.proofs.power_on.put_list.Goals as goal

pub returns-then-capability_count-eq0 : goal.returns-then-capability_count-eq0
returns-then-capability_count-eq0 c = rw (← c.capability_count.ensures, eq-eqb _ _ c.if-capability_count-eq0.true) (sym (laid_none _))

pub returns : goal.returns
returns c =
    rw (← c.capability_count.ensures, ne_eqb _ _ c.if-capability_count-eq0.false, c.put.ensures, c.put_byte.ensures, c.capability_start.ensures, laid_put) (simp laid_append)
