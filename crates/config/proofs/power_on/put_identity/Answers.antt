-- `put_identity` lays nine fields, one after the other.
use Rattle.config.proofs.Fields.{laid_append}
use Rattle.config.proofs.power_on.put_identity.Goals as goal

pub returns : goal.returns
returns c =
    rw (c.put_word-4.ensures, c.put_word-3.ensures, c.put_byte-5.ensures, c.put_byte-4.ensures, c.put_byte-3.ensures, c.put_byte-2.ensures, c.put_byte.ensures, c.put_word-2.ensures, c.put_word.ensures) (simp laid_append)
