-- `read` checks first.
use borrow.Author.Rules.{rules}
use Rattle.config.specs.Read.{read_of}
use Rattle.config.proofs.read_step.read.Goals as goal

pub returns-in_err-access : goal.returns-in_err-access
unfolding read_of
returns-in_err-access c = search rules

pub returns : goal.returns
unfolding read_of
returns c = rw (← c.space_of.ensures, ← c.check.ensures, c.in_ok-access.was) c.read_good.ensures
