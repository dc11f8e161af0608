-- What is declared is sound from the start, and no addition changes that, whatever it answers.
use Prim.Native.Nat.{ℕ, ◌+◌, ◌<◌, ◌≤◌}
use mathlib.Core.Bool.{true, false}
use mathlib.Core.List.{List}
use mathlib.Core.Logic.{⊎_elim}
use mathlib.Core.Path.{◌≡◌, refl, ap, ◌∙◌}
use native.Mathlib.Omega.{arith}
use lib.ListN.{length-set}
use lib.Seq.{get_or-set_same, get_or-set_other}
use Rattle.std.specs.Result.{result_unwrap_or}
use Rattle.word.proofs.Tests.{below_or_not, true_or_false, both}
use Rattle.word.proofs.Tables.{length_table}
use Rattle.address.specs.Limits.{Limits, capability_room, effect_room}
use Rattle.capability.specs.Size.{header_size}
use Rattle.capability.specs.Effect.{effect, no_effect}
use Rattle.capability.specs.Declaration.{no_capability, none_declared, declared_effect, length_at, latest, with_capability, with_effect}
use Rattle.capability.specs.BadEffect.{effect_bad}
use Rattle.capability.specs.Fault.{Fault, empty, early, late, overlapping}
use Rattle.capability.specs.Addition.{add_capability_of, add_effect_of}
use Rattle.capability.specs.Sound.{Fitting, Alone, Sound}
use Rattle.capability.specs.declared.effect.EffectAccess.{EffectAccess}
use Rattle.capability.specs.declared.effect.Effect.{Effect}
use Rattle.capability.specs.declared.declared.Capability.{Capability}
use Rattle.capability.specs.declared.declared.Capabilities.{Capabilities}
use Rattle.capability.proofs.Declarations.{added_other}
use Rattle.capability.proofs.Faults.{fault_bad, bad_fault}
use Rattle.capability.proofs.Additions.{add_full, add_good, effect_unowned, effect_full, effect_bad_lem, effect_good}

pub none_sound : Sound none_declared
unfolding none_declared
none_sound =
    record { long_list = length_table capability_room (λ k. no_capability); long_effects = length_table effect_room (λ j. no_effect); few = omega arith; few_effects = omega arith; fitting = λ j h. absurd (omega arith); alone = λ j h. absurd (omega arith) }

-- an effect fits as long as its capability stays as it is
fitting_kept : (d t : Capabilities) (e : Effect) → d.count ≤ t.count → length_at t e.capability ≡ length_at d e.capability → Fitting d e → Fitting t e
fitting_kept d t e h q f = record { filled = f.filled; belongs = omega (arith, f.belongs); starts = f.starts; ends = omega (arith, f.ends) }

with_capability_sound : (d : Capabilities) (c : Capability) → Sound d → d.count < capability_room → Sound (with_capability d c)
with_capability_sound d c s l =
    record {
      long_list = length-set d.list d.count c ∙ s.long_list;
      long_effects = s.long_effects;
      few = omega arith;
      few_effects = s.few_effects;
      fitting = λ j h.
          let f = s.fitting j h in
          fitting_kept d (with_capability d c) (declared_effect d j) (omega arith) (ap (λ (x : Capability). x.length) (added_other d c (declared_effect d j).capability (λ q. omega (arith, f.belongs)))) f;
      alone = s.alone;
    }

-- whatever the limits are, as long as there is room for them; a refusal leaves all as it was
pub add_capability_sound : (l : Limits) → l.capabilities ≤ capability_room → (d : Capabilities) (c : Capability) → Sound d → Sound (result_unwrap_or (add_capability_of l d c) d)
add_capability_sound l fit d c s =
    ⊎_elim (λ (h : d.count < l.capabilities). rw (add_good l d c h) (with_capability_sound d c s (omega arith)))
    (λ (h : l.capabilities ≤ d.count). rw (add_full l d c h) s)
    (below_or_not d.count l.capabilities)

module _ (d : Capabilities) (e : Effect) (s : Sound d) (l : d.effect_count < effect_room) where
  effect_kept : (j : ℕ) → j < d.effect_count → declared_effect (with_effect d e) j ≡ declared_effect d j
  effect_kept j h = get_or-set_other d.effects d.effect_count j e no_effect (λ q. omega arith)

  -- what holds of each effect and of one more holds of each with that one added
  each_effect : (P : ℕ → Effect → Type 0) → ((j : ℕ) → j < d.effect_count → P j (declared_effect d j)) → P d.effect_count e → (j : ℕ) → j < d.effect_count + 1 → P j (declared_effect (with_effect d e) j)
  each_effect P h q j m =
      ⊎_elim (λ (b : j < d.effect_count). rw (effect_kept j b) (h j b))
      (λ (b : d.effect_count ≤ j).
      let z : j ≡ d.effect_count = omega arith in
      rw (z, get_or-set_same d.effects d.effect_count e no_effect (omega (arith, s.long_effects))) q)
      (below_or_not j d.effect_count)

  with_effect_sound : Fitting d e → Alone d d.effect_count e → Sound (with_effect d e)
  with_effect_sound f free =
      record {
        long_list = s.long_list;
        long_effects = length-set d.effects d.effect_count e ∙ s.long_effects;
        few = s.few;
        few_effects = omega arith;
        fitting = each_effect (λ j x. Fitting (with_effect d e) x) (λ j h. fitting_kept d (with_effect d e) (declared_effect d j) (omega arith) refl (s.fitting j h)) (fitting_kept d (with_effect d e) e (omega arith) refl f);
        alone = λ j h i b m. rw (effect_kept i (omega arith)) (each_effect (Alone d) s.alone free j h i b m);
      }

-- what is no fault of an effect
unless_below : (a b : ℕ) → (a < b → ⊥) → b ≤ a
unless_below a b n = ⊎_elim (λ (l : a < b). absurd (n l)) (λ (l : b ≤ a). l) (below_or_not a b)

module _ (mask : List ℕ) (d : Capabilities) (id o w : ℕ) (a : EffectAccess) (s : Sound d) where
  faultless_fits : 0 < d.count → (Fault mask d o w → ⊥) → Fitting d (effect id (latest d) o w a)
  faultless_fits h clean =
      record {
        filled = unless_below w 1 (λ l. clean (empty (omega arith)));
        belongs = omega (arith, s.few);
        starts = unless_below o header_size (λ l. clean (early l));
        ends = unless_below (header_size + length_at d (latest d)) (o + w) (λ l. clean (late l));
      }

  faultless_alone : (Fault mask d o w → ⊥) → Alone d d.effect_count (effect id (latest d) o w a)
  faultless_alone clean i b h q e f = clean (overlapping (record { index = i; below = omega (arith, s.few_effects); there = q; byte = b; mine = f; its = e }))

  -- with a capability and room, refusal 11 decides
  decided_sound : (l : Limits) → l.effects ≤ effect_room → 0 < d.count → d.effect_count < l.effects → Sound (result_unwrap_or (add_effect_of l mask d id o w a) d)
  decided_sound l fit h m =
      ⊎_elim (λ (e : effect_bad mask d o w ≡ true). rw (effect_bad_lem l mask d id o w a (λ q. omega arith) m (bad_fault mask d o w e)) s)
      (λ (e : effect_bad mask d o w ≡ false).
      let clean : Fault mask d o w → ⊥ = λ f. both (fault_bad mask d o w f) e in
      rw (effect_good l mask d id o w a (λ q. omega arith) m clean) (with_effect_sound d (effect id (latest d) o w a) s (omega arith) (faultless_fits h clean) (faultless_alone clean)))
      (true_or_false (effect_bad mask d o w))

  pub add_effect_sound : (l : Limits) → l.effects ≤ effect_room → Sound (result_unwrap_or (add_effect_of l mask d id o w a) d)
  add_effect_sound l fit =
      ⊎_elim (λ (h : 0 < d.count). ⊎_elim (λ (m : d.effect_count < l.effects). decided_sound l fit h m)
      (λ (m : l.effects ≤ d.effect_count). rw (effect_full l mask d id o w a (λ q. omega arith) m) s)
      (below_or_not d.effect_count l.effects))
      (λ (h : d.count ≤ 0). rw (effect_unowned l mask d id o w a (omega arith)) s)
      (below_or_not 0 d.count)
