-- What the cases ask about: a BAR, capabilities, an effect, a function at power-on. Each has the shape that code holds.
use Rattle.std.specs.Prelude.{ℕ, Bool, List, [], ◌∷◌, replicate, None}
use Rattle.std.specs.Result.{result_unwrap_or}
use Rattle.address.specs.Layout.{config_space_size, bar_count}
use Rattle.address.specs.Limits.{limits, capability_room, effect_room, config_byte_room}
use Rattle.address.specs.Kinds.{slot, offset}
use Rattle.bar.specs.State.{state}
use Rattle.bar.specs.declared.bar_state.BarState.{BarState}
use Rattle.capability.specs.Declaration.{capability}
use Rattle.capability.specs.Addition.{add_capability_of}
use Rattle.capability.specs.Blank.{no_placed_capability, no_placed_effect, nothing_placed}
use Rattle.capability.specs.Effect.{access_both}
use Rattle.capability.specs.declared.declared.Capabilities.{Capabilities}
use Rattle.capability.specs.declared.placed.Placed.{Placed}
use Rattle.capability.specs.declared.placed.PlacedEffect.{PlacedEffect}
use Rattle.placement.specs.Examples.{padded}
use Rattle.config.specs.ConfigByte.{no_config_byte}
use Rattle.config.specs.Space.{body_space}
use Rattle.bar.specs.State.{no_state}
use Rattle.config.specs.PowerOn.{power_on_of}
use Rattle.config.specs.Start.{power_on_state}
use Rattle.config.specs.declared.function.Contents.{Contents}
use Rattle.config.specs.declared.state.FunctionState.{FunctionState}

-- capabilities with bodies of these lengths
abbrev pub declare : Capabilities → List ℕ → Capabilities
declare d [] = d
declare d (n ∷ ns) = declare (result_unwrap_or (add_capability_of limits d (capability 9 n)) d) ns

-- an effect at offset 3, of length 2, for both directions, of the capability at 0x40
abbrev pub p8_effect : PlacedEffect
p8_effect = record { id = 7; capability = 0; offset = 3; length = 2; access = access_both }

abbrev pub p8_placed : Placed
p8_placed =
    record { capabilities = padded capability_room no_placed_capability (record { id = 9; offset = offset 0x40; length = 8 } ∷ []); count = 1; effects = padded effect_room no_placed_effect (p8_effect ∷ []); effect_count = 1 }

-- a function with an identity and nothing else, at power-on
abbrev pub contents : Contents
contents =
    record {
      identity = record { vendor = 0x1234; device = 0x5678; subsystem_vendor = 0; subsystem = 0; revision = 1; base_class = 1; subclass = 8; programming_interface = 2 };
      intx = None;
      bytes = replicate config_byte_room no_config_byte;
      byte_count = 0;
      bodies = replicate body_space 0;
      masks = replicate body_space 0;
    }

abbrev pub plain : FunctionState
plain = power_on_state (power_on_of config_space_size contents (replicate bar_count no_state) nothing_placed) (replicate bar_count no_state) nothing_placed

-- a BAR of a size, committed at an address
abbrev pub committed_at : ℕ → ℕ → Bool → BarState
committed_at size address probing = state (record { slot = slot 0; size = size; address = 0 }) address probing
