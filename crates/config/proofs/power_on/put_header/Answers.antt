-- `put_header` lays the id and the next offset.
use Rattle.config.proofs.Fields.{laid_append, laid_put}
use Rattle.config.proofs.Layings.{kept_is}
use Rattle.config.proofs.power_on.put_header.Goals as goal
use Rattle.config.proofs.power_on.put_header.Goals.{Start}

pub returns : goal.returns
returns c =
    rw (c.put.ensures, c.put_byte.ensures, c.capability_start.ensures, c.capability_start-start.ensures, laid_put, kept_is c.args.placed c.args.i c.requires) (simp laid_append)
