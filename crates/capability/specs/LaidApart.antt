-- Placed capabilities and effects that lie apart (document 01, refusals 11 and 13): the layout of a sound declaration gives them (`layout_apart`), and the laws of proofs/Refusals.antt ask for them; no promise does.
use Rattle.std.specs.Prelude.{ℕ, ◌+◌, ◌<◌, ◌≤◌, true, ◌≡◌}
use Rattle.capability.specs.Size.{header_size}
use Rattle.capability.specs.Owner.{capability_count, effect_count, capability_at, effect_at, in_region}
use Rattle.capability.specs.Mode.{in_capability}
use Rattle.capability.specs.declared.placed.Placed.{Placed}

-- an effect is not empty, belongs to a capability, does not start before 2 and does not end after its capability; no byte lies in the regions of two effects, nor in two capabilities
pub record LaidApart (p : Placed) : Type 0 where
  pub filled : (i : ℕ) → i < effect_count p → 0 < (effect_at p i).length
  pub belongs : (i : ℕ) → i < effect_count p → (effect_at p i).capability < capability_count p
  pub starts : (i : ℕ) → i < effect_count p → header_size ≤ (effect_at p i).offset
  pub ends : (i : ℕ) → i < effect_count p → (effect_at p i).offset + (effect_at p i).length ≤ header_size + (capability_at p (effect_at p i).capability).length
  pub apart : (i k j : ℕ) → i < effect_count p → k < effect_count p → in_region p j i ≡ true → in_region p j k ≡ true → i ≡ k
  pub separate : (c e j : ℕ) → c < capability_count p → e < capability_count p → in_capability p j c ≡ true → in_capability p j e ≡ true → c ≡ e
