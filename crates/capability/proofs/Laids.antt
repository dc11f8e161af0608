-- An accepted layout as the run time finds it: each capability at its offset, in order, apart and in the space. A refused one comes with nothing, of which all of it holds.
use Prim.Native.Nat.{ℕ, ◌+◌, ◌<◌, ◌≤◌}
use mathlib.Core.Bool.{true}
use mathlib.Core.Logic.{⊎_elim}
use mathlib.Core.Path.{◌≡◌, sym, ap, ◌∙◌}
use native.Mathlib.Omega.{arith}
use lib.Seq.{length-take-le, get_or-take}
use Rattle.std.proofs.Common.{Ok}
use Rattle.word.proofs.Tests.{below_or_not}
use Rattle.word.proofs.Tables.{filled_length}
use Rattle.address.specs.Limits.{capability_room, effect_room}
use Rattle.capability.specs.Declaration.{count_of, effect_count_of, length_at, declared_effect}
use Rattle.capability.specs.Offset.{next_multiple, offset_at, end_at}
use Rattle.capability.specs.Blank.{no_placed_capability, no_placed_effect, nothing_placed}
use Rattle.capability.specs.Layout.{placed_capability, placed_effect, placed_of, answer_of, layout_of, placed_or_nothing}
use Rattle.capability.specs.Owner.{capability_count, effect_count, capability_at, effect_at, start_of}
use Rattle.capability.specs.Mode.{in_capability}
use Rattle.capability.specs.Laid.{finish_of, Laid}
use Rattle.capability.specs.declared.declared.Capabilities.{Capabilities}
use Rattle.capability.specs.declared.placed.PlacedCapability.{PlacedCapability}
use Rattle.capability.specs.declared.placed.Placed.{Placed}
use Rattle.capability.proofs.Offsets.{offset_first, offset_next, offset_multiple, offset_from, end_before}
use Rattle.capability.proofs.Rulings.{placed_fine}
use Rattle.capability.proofs.Shown.{placed_capability_lem, placed_effect_lem, nothing_count, no_capabilities, no_effects, layout_either}
use Rattle.capability.proofs.Extents.{extent_within}

-- what is placed, as the run time counts and finds it
module _ (d : Capabilities) where
  pub placed_many : capability_count (placed_of d) ≡ count_of d
  placed_many =
      length-take-le (count_of d) (placed_of d).capabilities (omega (arith, filled_length capability_room (placed_capability d) no_placed_capability (count_of d)))

  pub placed_many_effects : effect_count (placed_of d) ≡ effect_count_of d
  placed_many_effects =
      length-take-le (effect_count_of d) (placed_of d).effects (omega (arith, filled_length effect_room (λ j. placed_effect (declared_effect d j)) no_placed_effect (effect_count_of d)))

  pub placed_at : (i : ℕ) → i < count_of d → capability_at (placed_of d) i ≡ placed_capability d i
  placed_at i h = get_or-take (count_of d) (placed_of d).capabilities i no_placed_capability h ∙ placed_capability_lem d i no_placed_capability h

  pub placed_effect_at : (j : ℕ) → j < effect_count_of d → effect_at (placed_of d) j ≡ placed_effect (declared_effect d j)
  placed_effect_at j h = get_or-take (effect_count_of d) (placed_of d).effects j no_placed_effect h ∙ placed_effect_lem d j no_placed_effect h

  pub placed_start_lem : (i : ℕ) → i < count_of d → start_of (placed_of d) i ≡ offset_at (length_at d) i
  placed_start_lem i h = ap (λ (c : PlacedCapability). c.offset.0) (placed_at i h)

  pub placed_length : (i : ℕ) → i < count_of d → (capability_at (placed_of d) i).length ≡ length_at d i
  placed_length i h = ap (λ (c : PlacedCapability). c.length) (placed_at i h)

  pub placed_finish : (i : ℕ) → i < count_of d → finish_of (placed_of d) i ≡ end_at (length_at d) i
  placed_finish i h = omega (arith, placed_start_lem i h, placed_length i h)

  -- an accepted layout
  pub placed_laid : (space : ℕ) → answer_of space d ≡ Ok tt → Laid space (placed_of d)
  placed_laid space e =
      record {
        counted = placed_many;
        effects_counted = placed_many_effects;
        few = omega arith;
        few_effects = omega arith;
        first = λ h. placed_start_lem 0 h ∙ offset_first (length_at d);
        next = λ i h. placed_start_lem (i + 1) h ∙ offset_next (length_at d) i ∙ ap next_multiple (sym (placed_finish i (omega arith)));
        multiple = λ i h. rw (placed_start_lem i h) (offset_multiple (length_at d) i);
        from = λ i h. omega (arith, placed_start_lem i h, offset_from (length_at d) i);
        inside = λ i h. omega (arith, placed_finish i h, (placed_fine space d e i h).inside);
        ascends = λ i k l h. omega (arith, placed_finish i (omega arith), placed_start_lem k h, end_before (length_at d) i k l);
      }

-- where nothing is counted there is nothing to ask
none_laid : (space : ℕ) (p : Placed) → p.count ≡ 0 → p.effect_count ≡ 0 → Laid space p
none_laid space p h l =
    record {
      counted = omega (arith, no_capabilities p h);
      effects_counted = omega (arith, no_effects p l);
      few = omega arith;
      few_effects = omega arith;
      first = λ m. absurd (omega arith);
      next = λ i m. absurd (omega arith);
      multiple = λ i m. absurd (omega arith);
      from = λ i m. absurd (omega arith);
      inside = λ i m. absurd (omega arith);
      ascends = λ i k n m. absurd (omega arith);
    }

pub layout_laid : (space : ℕ) (d : Capabilities) → Laid space (placed_or_nothing (layout_of space d))
layout_laid space d = layout_either space d (Laid space) (placed_laid d space) (none_laid space nothing_placed nothing_count.0 nothing_count.1)

-- numbers of which neither is below the other are one
pub neither_below : (i k : ℕ) → (i < k → ⊥) → (k < i → ⊥) → i ≡ k
neither_below i k f g =
    ⊎_elim (λ (l : i < k). absurd (f l)) (λ (l : k ≤ i). ⊎_elim (λ (m : k < i). absurd (g m)) (λ (m : i ≤ k). omega arith) (below_or_not k i)) (below_or_not i k)

-- no byte lies in two capabilities
pub one_capability : (space : ℕ) (p : Placed) → Laid space p → (i k j : ℕ) → i < p.count → k < p.count → in_capability p j i ≡ true → in_capability p j k ≡ true → i ≡ k
one_capability space p l i k j h m a b =
    let v = extent_within p j i a in
    let w = extent_within p j k b in
    neither_below i k (λ q. omega (arith, l.ascends i k q m, v.to, w.from)) (λ q. omega (arith, l.ascends k i q h, w.to, v.from))
