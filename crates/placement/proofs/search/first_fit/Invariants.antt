-- `first_fit`: below the candidate there is no place (`Turn`), and each turn leaves fewer placed ranges to pass.
use Rattle.std.specs.Prelude.{Some}
use Rattle.placement.proofs.Turns.{Turn, left}
use Rattle.placement.proofs.search.first_fit.Given as goal

abbrev pub invariant-loop-aperture : goal.invariant-loop-aperture
invariant-loop-aperture l = Turn l.aperture l.size l.placed (Some l.start)

abbrev pub decreases-loop-aperture : goal.decreases-loop-aperture
decreases-loop-aperture l = left l.placed (Some l.start)
