-- `numeral_of`: the digits that are left, after those that spell the value, give the whole.
use mathlib.Core.Path.{◌≡◌}
use lib.ListN.{drop}
use Rattle.command.specs.Numeral.{numeral_from, numeral_of}
use Rattle.command.proofs.numeral.numeral_of.Given as goal

abbrev pub invariant-loop-byte : goal.invariant-loop-byte
invariant-loop-byte l = numeral_from l.base l.value (drop l.byte-index l.word) ≡ numeral_of l.base l.word
