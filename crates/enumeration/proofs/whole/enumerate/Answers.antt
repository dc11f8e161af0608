-- `enumerate` goes by the vendor, then reads identity and pin, the slots, and the list.
use borrow.Author.Tests.{eq-eqb, ne_eqb}
use Rattle.enumeration.specs.Enumerate.{enumerate_of}
use Rattle.enumeration.proofs.whole.enumerate.Goals as goal

pub returns-then-ask_word : goal.returns-then-ask_word
unfolding enumerate_of
returns-then-ask_word c = rw (← c.ask_word.ensures, eq-eqb _ _ c.if-ask_word.true, c.absent_report.ensures)

pub returns : goal.returns
unfolding enumerate_of
returns c =
    rw (c.read_list-listed.ensures.0, c.read_list-listed.ensures.1, c.enumerate_slots-done.ensures.0, c.enumerate_slots-done.ensures.1, c.ask_byte-pin.ensures, c.read_identity-identity.ensures, ← c.ask_word.ensures, ne_eqb _ _ c.if-ask_word.false)
