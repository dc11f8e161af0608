-- `automatic_step` goes by whether one waits.
use Prim.Native.Nat.{◌<◌}
use mathlib.Core.Path.{sym, ◌∙◌}
use native.Mathlib.Omega.{arith}
use Rattle.placement.specs.Keys.{key_count}
use Rattle.placement.proofs.Nexts.{next_is}
use Rattle.placement.proofs.automatic.automatic_step.Goals as goal
use Rattle.placement.proofs.automatic.automatic_step.Goals.{In-Some}

-- the next one is a key
below : (c : In-Some) → c.in-Some.key < key_count
below c = (next_is _ _ _ (sym c.next_automatic.ensures ∙ c.in-Some.is)).0

pub offset_bounds-bars-key : goal.offset_bounds-bars-key
offset_bounds-bars-key c = omega (arith, below (goal.at.offset_bounds-bars-key c).In-Some)

pub bounds-bars-key : goal.bounds-bars-key
bounds-bars-key c = below (goal.at.bounds-bars-key c).In-Some

pub place_lowest-requires : goal.place_lowest-requires
place_lowest-requires c = below (goal.at.place_lowest-requires c).In-Some
