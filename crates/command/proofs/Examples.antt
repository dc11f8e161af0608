-- The examples compute.
use mathlib.Core.List.{map}
use mathlib.Core.Path.{◌≡◌, refl}
use Rattle.word.specs.Search.{first_below}
use Rattle.command.specs.Numeral.{numeral_from, numeral_of}
use Rattle.command.specs.Command.{word_length, argument_at, read_by, write_by, lookup_by, device_by, command_by, command_of}
use Rattle.command.specs.Examples.{line, meant, examples}

pub examples_hold : map (λ e. command_of (line e)) examples ≡ map meant examples
unfolding first_below numeral_from numeral_of word_length argument_at read_by write_by lookup_by device_by command_by command_of examples
examples_hold = refl
