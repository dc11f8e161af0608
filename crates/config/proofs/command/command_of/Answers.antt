-- `command_of` reads the two command bytes.
use Rattle.config.specs.Command.{watched}
use Rattle.config.proofs.command.command_of.Goals as goal

pub returns : goal.returns
unfolding watched
returns c = c.command_bits.ensures
