-- `ranges_but` is the list of all with one left out.
use native.Mathlib.Omega.{arith}
use Rattle.bus.proofs.Committed.{ranges_without}
use Rattle.bus.proofs.ranges.ranges_but.Goals as goal

pub returns : goal.returns
returns c = rw (c.no_range-none.ensures, c.ranges_on-ranges.ensures) (ranges_without _ _ (omega arith))
