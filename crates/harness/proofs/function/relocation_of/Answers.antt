-- `relocation_of` goes by the flag.
use Rattle.harness.proofs.function.relocation_of.Goals as goal

pub returns-then-accepted : goal.returns-then-accepted
returns-then-accepted c = rw c.if-accepted.true
