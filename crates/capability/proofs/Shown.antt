-- What the record of a layout shows, answer by answer and place by place.
use Prim.Native.Nat.{ℕ, ◌<◌, ◌≤◌}
use mathlib.Core.Path.{◌≡◌, refl, ap}
use native.Mathlib.Omega.{arith}
use lib.ListN.{get_or, length-take}
use Rattle.std.proofs.Common.{Result, Ok, Err}
use Rattle.word.proofs.Tables.{get_or_table, filled_at, filled_past}
use Rattle.address.specs.Limits.{capability_room, effect_room}
use Rattle.capability.specs.Declaration.{count_of, effect_count_of, declared_effect}
use Rattle.capability.specs.Blank.{no_placed_capability, no_placed_effect, nothing_placed}
use Rattle.capability.specs.Layout.{placed_capability, placed_effect, placed_of, placed_for, answer_of, answer_in, layout_of, placed_or_nothing}
use Rattle.capability.specs.Owner.{capability_count, effect_count}
use Rattle.capability.specs.declared.declared.Capabilities.{Capabilities}
use Rattle.capability.specs.declared.layout.LayoutRefusal.{LayoutRefusal}
use Rattle.capability.specs.declared.placed.PlacedCapability.{PlacedCapability}
use Rattle.capability.specs.declared.placed.PlacedEffect.{PlacedEffect}
use Rattle.capability.specs.declared.placed.Placed.{Placed}

-- what is placed for an answer comes with that answer
answered : (d : Capabilities) (a : Result (Unit {0}) LayoutRefusal) → answer_in (placed_for d a) ≡ a
answered d (Ok tt) = refl
answered d (Err r) = refl

module _ (space : ℕ) (d : Capabilities) where
  pub layout_answer_lem : answer_in (layout_of space d) ≡ answer_of space d
  unfolding layout_of
  layout_answer_lem = answered d (answer_of space d)

  shown_by : (a : Result (Unit {0}) LayoutRefusal) → answer_of space d ≡ a → layout_of space d ≡ placed_for d a
  unfolding layout_of
  shown_by a e = ap (placed_for d) e

  -- everything where it is accepted, the same refusal where it is not
  pub layout_placed : answer_of space d ≡ Ok tt → layout_of space d ≡ Ok (placed_of d)
  layout_placed e = shown_by (Ok tt) e

  pub layout_refused : (r : LayoutRefusal) → answer_of space d ≡ Err r → layout_of space d ≡ Err r
  layout_refused r e = shown_by (Err r) e

  either : (P : Placed → Type 0) → (answer_of space d ≡ Ok tt → P (placed_of d)) → P nothing_placed → (a : Result (Unit {0}) LayoutRefusal) → answer_of space d ≡ a → P (placed_or_nothing (layout_of space d))
  either P h n (Ok u) e = rw (layout_placed e) (h e)
  either P h n (Err r) e = rw (layout_refused r e) n

  -- so what holds of everything at its place, where it is accepted, and of nothing at all, holds of what any answer comes with
  pub layout_either : (P : Placed → Type 0) → (answer_of space d ≡ Ok tt → P (placed_of d)) → P nothing_placed → P (placed_or_nothing (layout_of space d))
  layout_either P h n = either P h n (answer_of space d) refl

-- capability k and effect j of what is placed, and the blanks after them
module _ (d : Capabilities) where
  pub placed_capability_lem : (k : ℕ) (z : PlacedCapability) → k < count_of d → get_or (placed_of d).capabilities k z ≡ placed_capability d k
  placed_capability_lem k z h = filled_at capability_room (placed_capability d) no_placed_capability (count_of d) k z (omega arith) h

  pub placed_effect_lem : (j : ℕ) (z : PlacedEffect) → j < effect_count_of d → get_or (placed_of d).effects j z ≡ placed_effect (declared_effect d j)
  placed_effect_lem j z h = filled_at effect_room (λ j. placed_effect (declared_effect d j)) no_placed_effect (effect_count_of d) j z (omega arith) h

  pub placed_blank : (k : ℕ) (z : PlacedCapability) → count_of d ≤ k → k < capability_room → get_or (placed_of d).capabilities k z ≡ no_placed_capability
  placed_blank k z h l = filled_past capability_room (placed_capability d) no_placed_capability (count_of d) k z l h

  pub placed_effect_blank : (j : ℕ) (z : PlacedEffect) → effect_count_of d ≤ j → j < effect_room → get_or (placed_of d).effects j z ≡ no_placed_effect
  placed_effect_blank j z h l = filled_past effect_room (λ j. placed_effect (declared_effect d j)) no_placed_effect (effect_count_of d) j z l h

-- where nothing is placed the counts are 0 and every place is blank
pub nothing_count : (nothing_placed.count ≡ 0) × (nothing_placed.effect_count ≡ 0)
unfolding nothing_placed
nothing_count = (refl, refl)

pub nothing_capability : (k : ℕ) (z : PlacedCapability) → k < capability_room → get_or nothing_placed.capabilities k z ≡ no_placed_capability
unfolding nothing_placed
nothing_capability k z h = get_or_table capability_room (λ k. no_placed_capability) k z h

pub nothing_effect : (j : ℕ) (z : PlacedEffect) → j < effect_room → get_or nothing_placed.effects j z ≡ no_placed_effect
unfolding nothing_placed
nothing_effect j z h = get_or_table effect_room (λ j. no_placed_effect) j z h

-- and where nothing is counted the run time finds none
pub no_capabilities : (p : Placed) → p.count ≡ 0 → capability_count p ≡ 0
no_capabilities p h = omega (arith, length-take p.count p.capabilities)

pub no_effects : (p : Placed) → p.effect_count ≡ 0 → effect_count p ≡ 0
no_effects p h = omega (arith, length-take p.effect_count p.effects)
