-- `command_after` reads the two command bytes as a store would leave them.
use Rattle.config.specs.Command.{watched}
use Rattle.config.proofs.command.command_after.Goals as goal

pub returns : goal.returns
unfolding watched
returns c = rw (← c.stored_byte-low.ensures, ← c.stored_byte-high.ensures) c.command_bits.ensures
