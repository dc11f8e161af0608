-- The layout of declared capabilities, with refusals 12 and 13 (document 01, "Power-on image"). The size of config space is the parameter `space`.
use Rattle.std.specs.Prelude.{Result, Ok, Err, ℕ, Bool, ◌||◌, cond, ltb}
use Rattle.std.specs.Result.{result_unwrap_or}
use Rattle.refusal.specs.Number.{accepted}
use Rattle.refusal.specs.Refusal.{number_of}
use Rattle.refusal.specs.declared.refusal.Refusal.TheVariants as refusal
use Rattle.word.specs.Search.{first_below}
use Rattle.word.specs.Table.{filled}
use Rattle.address.specs.Limits.{capability_room, effect_room}
use Rattle.address.specs.Kinds.{offset}
use Rattle.capability.specs.Effect.{effect_access_number}
use Rattle.capability.specs.Declaration.{count_of, effect_count_of, declared_capability, declared_effect, length_at}
use Rattle.capability.specs.Offset.{offset_at, end_at}
use Rattle.capability.specs.Repeat.{repeats_at}
use Rattle.capability.specs.Blank.{no_placed_capability, no_placed_effect, nothing_placed}
use Rattle.capability.specs.declared.effect.Effect.{Effect}
use Rattle.capability.specs.declared.declared.Capabilities.{Capabilities}
use Rattle.capability.specs.declared.placed.PlacedCapability.{PlacedCapability}
use Rattle.capability.specs.declared.placed.PlacedEffect.{PlacedEffect}
use Rattle.capability.specs.declared.placed.Placed.{Placed}
use Rattle.capability.specs.declared.layout.LayoutRefusal.{LayoutRefusal}

-- refusal 13 at capability k: it "would end after" the space
abbrev pub past_end_at : ℕ → Capabilities → ℕ → Bool
past_end_at space d k = ltb space (end_at (length_at d) k)

-- 12 or 13
abbrev pub fault_at : ℕ → Capabilities → ℕ → Bool
fault_at space d k = repeats_at d k || past_end_at space d k

-- "capabilities in order (12 before 13 for each)": the refusal at capability k, which is at fault
abbrev pub repeated_at : ℕ → LayoutRefusal
repeated_at k = record { refusal = refusal.RepeatedEffect; index = k }

abbrev pub past_at : ℕ → LayoutRefusal
past_at k = record { refusal = refusal.PastSpace; index = k }

abbrev pub refusal_at : Capabilities → ℕ → LayoutRefusal
refusal_at d k = cond (repeats_at d k) (repeated_at k) (past_at k)

-- the first one at fault decides, of those that are declared
unfoldable pub answer_of : ℕ → Capabilities → Result (Unit {0}) LayoutRefusal
answer_of space d =
    cond (ltb (first_below (fault_at space d) (count_of d)) (count_of d)) (Err (refusal_at d (first_below (fault_at space d) (count_of d)))) (Ok tt)

-- capability k at its place, and an effect with its access as a number
abbrev pub placed_capability : Capabilities → ℕ → PlacedCapability
placed_capability d k = record { id = (declared_capability d k).id; offset = offset (offset_at (length_at d) k); length = length_at d k }

abbrev pub placed_effect : Effect → PlacedEffect
placed_effect e = record { id = e.id; capability = e.capability; offset = e.offset; length = e.length; access = effect_access_number e.access }

-- everything at its place
abbrev pub placed_of : Capabilities → Placed
placed_of d =
    record {
      capabilities = filled capability_room (count_of d) (placed_capability d) no_placed_capability;
      count = count_of d;
      effects = filled effect_room (effect_count_of d) (λ j. placed_effect (declared_effect d j)) no_placed_effect;
      effect_count = effect_count_of d;
    }

-- what an answer comes with
abbrev pub placed_for : Capabilities → Result (Unit {0}) LayoutRefusal → Result Placed LayoutRefusal
placed_for d (Ok u) = Ok (placed_of d)
placed_for d (Err r) = Err r

-- an answer with no more than whether there is a layout, or the refusal
abbrev pub answer_in : Result Placed LayoutRefusal → Result (Unit {0}) LayoutRefusal
answer_in (Ok p) = Ok tt
answer_in (Err r) = Err r

unfoldable pub layout_of : ℕ → Capabilities → Result Placed LayoutRefusal
layout_of space d = placed_for d (answer_of space d)

-- what a layout places: nothing where it is refused
abbrev pub placed_or_nothing : Result Placed LayoutRefusal → Placed
placed_or_nothing r = result_unwrap_or r nothing_placed

-- document 01's number for an answer, 0 where nothing is refused
abbrev pub layout_number : {A : Type 0} → Result A LayoutRefusal → ℕ
layout_number (Ok a) = accepted
layout_number (Err r) = number_of r.refusal
