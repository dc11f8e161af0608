-- `effects_in` fills the list place by place.
use Prim.Native.Nat.{ℕ}
use mathlib.Core.List.{List}
use mathlib.Core.Path.{◌≡◌}
use lib.ListN.{get_or}
use Rattle.capability.specs.Effect.{no_effect}
use Rattle.address.specs.Limits.{effect_room}
use Rattle.capability.specs.Blank.{no_placed_effect}
use Rattle.capability.specs.declared.effect.Effect.{Effect}
use Rattle.capability.specs.declared.placed.PlacedEffect.{PlacedEffect}
use Rattle.word.specs.Table.{filled}
use Rattle.harness.specs.Lists.{effect_taken}
use Rattle.harness.proofs.lists.effects_in.Given as goal

abbrev pub place : List PlacedEffect → ℕ → Effect
place effects j = effect_taken (get_or effects j no_placed_effect)

abbrev pub invariant-loop-j : goal.invariant-loop-j
invariant-loop-j l = l.list ≡ filled effect_room l.j (place l.effects) no_effect
