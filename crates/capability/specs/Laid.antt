-- Where a layout puts capabilities (document 01, "Power-on image" and refusal 13; `layout_laid` shows it): laws of the crates above ask for it, no promise does.
use Rattle.std.specs.Prelude.{ℕ, ◌+◌, ◌%◌, ◌<◌, ◌≤◌, ◌≡◌}
use Rattle.address.specs.Layout.{standard_header_end}
use Rattle.address.specs.Limits.{capability_room, effect_room}
use Rattle.capability.specs.Offset.{alignment, next_multiple, capability_end}
use Rattle.capability.specs.Owner.{capability_count, effect_count, capability_at, start_of}
use Rattle.capability.specs.declared.placed.Placed.{Placed}

-- where the capability at an index ends
abbrev pub finish_of : Placed → ℕ → ℕ
finish_of p i = capability_end (start_of p i) (capability_at p i).length

-- "Capabilities start at 0x40, each at the next multiple of 4 after the one before": so they start at multiples of 4 from 0x40 on, ascend, lie apart and end in the space
pub record Laid (space : ℕ) (p : Placed) : Type 0 where
  pub counted : capability_count p ≡ p.count
  pub effects_counted : effect_count p ≡ p.effect_count
  pub few : p.count ≤ capability_room
  pub few_effects : p.effect_count ≤ effect_room
  pub first : 0 < p.count → start_of p 0 ≡ standard_header_end
  pub next : (i : ℕ) → i + 1 < p.count → start_of p (i + 1) ≡ next_multiple (finish_of p i)
  pub multiple : (i : ℕ) → i < p.count → start_of p i % alignment ≡ 0
  pub from : (i : ℕ) → i < p.count → standard_header_end ≤ start_of p i
  pub inside : (i : ℕ) → i < p.count → finish_of p i ≤ space
  pub ascends : (i k : ℕ) → i < k → k < p.count → finish_of p i ≤ start_of p k
