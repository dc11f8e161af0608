-- `place_automatic` after n turns has made n steps.
use mathlib.Core.Path.{◌≡◌}
use Rattle.std.specs.Prelude.{Ok}
use Rattle.placement.specs.Passes.{auto_after}
use Rattle.placement.proofs.automatic.place_automatic.Given as goal

abbrev pub invariant-loop-turn : goal.invariant-loop-turn
invariant-loop-turn l = Ok l.placed ≡ auto_after l.aperture l.bars l.initial.placed l._turn
