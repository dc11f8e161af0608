-- `harness_reset` turns the answer of `reset` into numbers.
use Rattle.harness.proofs.function.harness_reset.Goals as goal

pub returns : goal.returns
returns c = rw (c.number.ensures, c.reset-done.ensures)
