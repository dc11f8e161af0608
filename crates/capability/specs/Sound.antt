-- What is true of every list of capabilities and effects that is declared step by step (document 01, refusals 4 and 11): `none_sound`, `add_capability_sound` and `add_effect_sound` show it, `layout_apart` asks for it; no promise does.
use Rattle.std.specs.Prelude.{ℕ, ◌+◌, ◌<◌, ◌≤◌, true, ◌≡◌, length}
use Rattle.word.specs.Interval.{covers}
use Rattle.address.specs.Limits.{capability_room, effect_room}
use Rattle.capability.specs.Size.{header_size}
use Rattle.capability.specs.Declaration.{declared_effect, length_at}
use Rattle.capability.specs.declared.effect.Effect.{Effect}
use Rattle.capability.specs.declared.declared.Capabilities.{Capabilities}

-- an effect is not empty, belongs to a capability, does not start before 2 and does not end after its capability
pub record Fitting (d : Capabilities) (e : Effect) : Type 0 where
  pub filled : 0 < e.length
  pub belongs : e.capability < d.count
  pub starts : header_size ≤ e.offset
  pub ends : e.offset + e.length ≤ header_size + length_at d e.capability

-- no byte of an effect lies in one of the first n of its capability
abbrev pub Alone : Capabilities → ℕ → Effect → Type 0
Alone d n e =
    (i b : ℕ) → i < n → (declared_effect d i).capability ≡ e.capability → covers (declared_effect d i).offset (declared_effect d i).length b ≡ true → covers e.offset e.length b ≡ true → ⊥

-- the arrays have their lengths, no count reaches past its array, each effect fits and overlaps no earlier one of its capability
pub record Sound (d : Capabilities) : Type 0 where
  pub long_list : length d.list ≡ capability_room
  pub long_effects : length d.effects ≡ effect_room
  pub few : d.count ≤ capability_room
  pub few_effects : d.effect_count ≤ effect_room
  pub fitting : (j : ℕ) → j < d.effect_count → Fitting d (declared_effect d j)
  pub alone : (j : ℕ) → j < d.effect_count → Alone d j (declared_effect d j)
