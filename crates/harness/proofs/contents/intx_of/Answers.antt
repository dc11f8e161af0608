-- `intx_of` goes by the flag.
use Rattle.harness.proofs.contents.intx_of.Goals as goal

pub returns-then-has_intx : goal.returns-then-has_intx
returns-then-has_intx c = rw c.if-has_intx.true
