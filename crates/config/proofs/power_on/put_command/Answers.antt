-- `put_command` lays two fields.
use Rattle.config.proofs.Fields.{laid_append}
use Rattle.config.proofs.power_on.put_command.Goals as goal

pub returns : goal.returns
returns c =
    rw (c.put_byte-2.ensures, c.put_byte.ensures) (simp laid_append)
