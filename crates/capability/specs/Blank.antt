-- What stands past the last placed capability and past the last placed effect: neither covers a byte of its own.
use Rattle.word.specs.Table.{table}
use Rattle.address.specs.Kinds.{offset}
use Rattle.address.specs.Limits.{capability_room, effect_room}
use Rattle.capability.specs.declared.placed.PlacedCapability.{PlacedCapability}
use Rattle.capability.specs.declared.placed.PlacedEffect.{PlacedEffect}
use Rattle.capability.specs.declared.placed.Placed.{Placed}

abbrev pub no_placed_capability : PlacedCapability
no_placed_capability = record { id = 0; offset = offset 0; length = 0 }

abbrev pub no_placed_effect : PlacedEffect
no_placed_effect = record { id = 0; capability = 0; offset = 0; length = 0; access = 0 }

-- a function with neither
unfoldable pub nothing_placed : Placed
nothing_placed =
    record { capabilities = table capability_room (λ k. no_placed_capability); count = 0; effects = table effect_room (λ j. no_placed_effect); effect_count = 0 }
