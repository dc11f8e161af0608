-- `reset` restores the functions; the answer is asked before.
use Rattle.bus.specs.Reset.{bus_reset_of}
use Rattle.bus.proofs.bus_reset.reset.Goals as goal

pub returns : goal.returns
unfolding bus_reset_of
returns c = rw (c.reset_functions-restored.ensures, c.count_on.ensures, c.reset_answer-answer.ensures)
