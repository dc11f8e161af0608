-- `put_intx` lays two fields for a pin, none without INTx.
use mathlib.Core.Path.{sym}
use Rattle.config.proofs.Fields.{laid_append, laid_none}
use Rattle.config.proofs.power_on.put_intx.Goals as goal

pub returns-in-None : goal.returns-in-None
returns-in-None c = rw c.in-None.is (sym (laid_none _))

pub returns-in-Some : goal.returns-in-Some
returns-in-Some c =
    rw (c.in-Some.is, c.put_byte-in-Some.ensures, c.put_byte.ensures) (simp laid_append)
