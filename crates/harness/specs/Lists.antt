-- Capabilities and effects in numbers: what they declare, and what is answered.
use Rattle.std.specs.Prelude.{Result, Ok, Err, ℕ, min, List, get_or}
use Rattle.std.specs.Result.{result_unwrap_or}
use Rattle.refusal.specs.Number.{accepted}
use Rattle.refusal.specs.Refusal.{number_of, answer_number}
use Rattle.word.specs.Table.{table}
use Rattle.address.specs.Layout.{config_space_size}
use Rattle.capability.specs.Size.{body_most}
use Rattle.capability.specs.Effect.{access_of_number, effect}
use Rattle.capability.specs.Declaration.{capability}
use Rattle.address.specs.Limits.{limits, capability_room, effect_room}
use Rattle.capability.specs.Addition.{add_effect_of}
use Rattle.capability.specs.Layout.{layout_of}
use Rattle.capability.specs.Blank.{no_placed_effect, nothing_placed}
use Rattle.capability.specs.declared.effect.EffectAccess.{EffectAccess}
use Rattle.capability.specs.declared.effect.EffectAccess.TheVariants.{Read}
use Rattle.capability.specs.declared.effect.Effect.{Effect}
use Rattle.capability.specs.declared.declared.Capability.{Capability}
use Rattle.capability.specs.declared.declared.Capabilities.{Capabilities}
use Rattle.capability.specs.declared.placed.Placed.{Placed}
use Rattle.capability.specs.declared.placed.PlacedEffect.{PlacedEffect}
use Rattle.capability.specs.declared.layout.LayoutRefusal.{LayoutRefusal}
use Rattle.harness.specs.declared.lists.DeclaredNumbers.{DeclaredNumbers}
use Rattle.harness.specs.declared.lists.LaidOut.{LaidOut}

-- "access 1 (1 read, 2 write, 3 both)"; any other number counts as read
abbrev pub access_taken : ℕ → EffectAccess
access_taken number = result_unwrap_or (access_of_number number) Read

-- the effect that the numbers are taken for
abbrev pub effect_taken : PlacedEffect → Effect
effect_taken e = effect e.id e.capability e.offset e.length (access_taken e.access)

-- a body length above the most counts as the most
unfoldable pub capabilities_in : List ℕ → List ℕ → List Capability
capabilities_in ids lengths = table capability_room (λ k. capability (get_or ids k 0) (min (get_or lengths k 0) body_most))

-- the effects that the numbers declare, in their order
unfoldable pub effects_in : List PlacedEffect → List Effect
effects_in effects = table effect_room (λ j. effect_taken (get_or effects j no_placed_effect))

-- the declaration that the numbers say: no count reaches past its array
unfoldable pub declared_in : DeclaredNumbers → Capabilities
declared_in n =
    record {
      list = capabilities_in n.ids n.lengths;
      count = min n.count capability_room;
      effects = effects_in n.effects;
      effect_count = min n.effect_count effect_room;
    }

-- what is told of a layout: its number, the capability at fault, 0 where there is none, what is placed
abbrev pub laid_out : Result Placed LayoutRefusal → LaidOut
laid_out (Ok p) = record { refusal = accepted; index = 0; placed = p }
laid_out (Err r) = record { refusal = number_of r.refusal; index = r.index; placed = nothing_placed }

-- the layout of what the numbers declare
unfoldable pub lay_out : DeclaredNumbers → LaidOut
lay_out n = laid_out (layout_of config_space_size (declared_in n))

-- the effect's own capability index is not asked, it is added to the latest one
unfoldable pub effect_number : DeclaredNumbers → List ℕ → PlacedEffect → ℕ
effect_number n mask e = answer_number (add_effect_of limits mask (declared_in n) e.id e.offset e.length (access_taken e.access))
