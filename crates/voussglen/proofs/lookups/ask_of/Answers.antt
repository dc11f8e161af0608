-- `ask_of` turns what `lookup` answers into a plain struct.
use Rattle.voussglen.proofs.lookups.ask_of.Goals as goal

pub returns : goal.returns
returns c = rw (c.result_of.ensures, c.lookup.ensures)
