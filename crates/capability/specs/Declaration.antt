-- A function's capabilities and effects as they are declared (document 01, tags 6 and 7).
use Rattle.std.specs.Prelude.{Result, Ok, Err, ℕ, ◌+◌, ◌-◌, min, cond, leb, get_or, set}
use Rattle.refusal.specs.declared.refusal.Refusal.{Refusal}
use Rattle.refusal.specs.declared.refusal.Refusal.TheVariants as refusal
use Rattle.word.specs.Table.{table}
use Rattle.address.specs.Limits.{capability_room, effect_room}
use Rattle.capability.specs.Size.{body_most}
use Rattle.capability.specs.Effect.{no_effect}
use Rattle.capability.specs.declared.effect.Effect.{Effect}
use Rattle.capability.specs.declared.declared.Capability.{Capability}
use Rattle.capability.specs.declared.declared.Capabilities.{Capabilities}

-- a capability: its id, and the length of its body
abbrev pub capability : ℕ → ℕ → Capability
capability id length = record { id = id; length = length }

-- one with a body that is not too long, or refusal 10
unfoldable pub capability_of : ℕ → ℕ → Result Capability Refusal
capability_of id length = cond (leb length body_most) (Ok (capability id length)) (Err refusal.LongBody)

-- what stands past the last capability of a list
abbrev pub no_capability : Capability
no_capability = capability 0 0

-- a function without capabilities
unfoldable pub none_declared : Capabilities
none_declared = record { list = table capability_room (λ k. no_capability); count = 0; effects = table effect_room (λ j. no_effect); effect_count = 0 }

-- how many are declared: no count reaches past its array
abbrev pub count_of : Capabilities → ℕ
count_of d = min d.count capability_room

abbrev pub effect_count_of : Capabilities → ℕ
effect_count_of d = min d.effect_count effect_room

-- the capability and the effect at an index
abbrev pub declared_capability : Capabilities → ℕ → Capability
declared_capability d k = get_or d.list k no_capability

abbrev pub declared_effect : Capabilities → ℕ → Effect
declared_effect d j = get_or d.effects j no_effect

-- the body length of capability k
abbrev pub length_at : Capabilities → ℕ → ℕ
length_at d k = (declared_capability d k).length

-- the latest capability's index, where there is one
abbrev pub latest : Capabilities → ℕ
latest d = count_of d - 1

-- one more at the end
abbrev pub with_capability : Capabilities → Capability → Capabilities
with_capability d c = record { list = set d.list d.count c; count = d.count + 1; effects = d.effects; effect_count = d.effect_count }

abbrev pub with_effect : Capabilities → Effect → Capabilities
with_effect d e = record { list = d.list; count = d.count; effects = set d.effects d.effect_count e; effect_count = d.effect_count + 1 }
