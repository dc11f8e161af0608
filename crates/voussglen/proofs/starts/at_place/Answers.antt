-- `at_place` goes by the two kinds of place.
use Rattle.voussglen.proofs.starts.at_place.Goals as goal

pub returns-in-Offset : goal.returns-in-Offset
returns-in-Offset c = rw c.in-Offset.is

pub returns-in-Index : goal.returns-in-Index
returns-in-Index c = rw c.in-Index.is
