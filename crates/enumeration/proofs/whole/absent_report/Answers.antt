-- `absent_report` is blank in every part.
use Rattle.enumeration.specs.Enumerate.{absent_report}
use Rattle.enumeration.proofs.whole.absent_report.Goals as goal

pub returns : goal.returns
unfolding absent_report
returns c = rw (c.no_slots.ensures, c.no_list.ensures)
