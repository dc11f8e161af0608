-- `place_effects`: the first i places are filled.
use mathlib.Core.Path.{◌≡◌}
use lib.ListN.{get_or}
use Rattle.word.specs.Table.{filled}
use Rattle.address.specs.Limits.{effect_room}
use Rattle.capability.specs.Effect.{no_effect}
use Rattle.capability.specs.Blank.{no_placed_effect}
use Rattle.capability.specs.Layout.{placed_effect}
use Rattle.capability.proofs.placing.place_effects.Given as goal

abbrev pub invariant-loop-i : goal.invariant-loop-i
invariant-loop-i l = l.out ≡ filled effect_room l.i (λ j. placed_effect (get_or l.effects j no_effect)) no_placed_effect
