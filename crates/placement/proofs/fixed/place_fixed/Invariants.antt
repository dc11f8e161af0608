-- `place_fixed` after n keys has made their steps.
use mathlib.Core.Path.{◌≡◌}
use Rattle.std.specs.Prelude.{Ok}
use Rattle.placement.specs.Passes.{fixed_after}
use Rattle.placement.proofs.fixed.place_fixed.Given as goal

abbrev pub invariant-loop-key : goal.invariant-loop-key
invariant-loop-key l = Ok l.placed ≡ fixed_after l.aperture l.bars l.key
