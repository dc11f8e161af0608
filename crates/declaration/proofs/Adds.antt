-- A capability and an effect: what the field does by the answer of the layer below.
use Prim.Native.Nat.{ℕ, ◌<◌, ◌≤◌}
use mathlib.Core.Bool.{true, false}
use mathlib.Core.List.{List}
use mathlib.Core.Logic.{⊎_elim}
use mathlib.Core.Path.{◌≡◌}
use Rattle.std.specs.Prelude.{Result, Ok, Err}
use Rattle.refusal.specs.declared.refusal.Refusal.{Refusal}
use Rattle.word.proofs.Tests.{below_or_not, same_or_not, true_or_false, both}
use Rattle.address.specs.Limits.{Limits}
use Rattle.capability.specs.Size.{body_most}
use Rattle.capability.specs.Declaration.{capability}
use Rattle.capability.specs.BadEffect.{effect_bad}
use Rattle.capability.specs.Addition.{add_capability_of, add_effect_of}
use Rattle.capability.specs.declared.effect.EffectAccess.{EffectAccess}
use Rattle.capability.specs.declared.declared.Capabilities.{Capabilities}
use Rattle.capability.proofs.Faults.{bad_fault, fault_bad}
use Rattle.capability.proofs.Additions as additions
use Rattle.declaration.specs.Blank.{no_mask}
use Rattle.declaration.specs.Take.{with_function, with_contents, with_capabilities, mask_part, with_part, bodies_with, taken_said}
use Rattle.declaration.specs.declared.said.Said.TheVariants as said
use Rattle.declaration.specs.declared.so_far.SoFar.{SoFar}
use Rattle.declaration.proofs.Takings.{capability_above, capability_taken, effect_unowned, effect_above, effect_refused, effect_taken_lem}

-- one more capability of n bytes, with the bytes of its field at their places; `d` are the capabilities with it
abbrev pub with_bytes : SoFar → ℕ → List ℕ → Capabilities → SoFar
with_bytes s n body d =
    record {
      aperture = s.aperture;
      devices = s.devices;
      count = s.count;
      function = with_capabilities (with_contents s.function (bodies_with s.function.contents s.function.capabilities n body)) d;
      mask = with_part no_mask 0 (mask_part n body);
    }

abbrev pub after_capability : SoFar → ℕ → List ℕ → Result Capabilities Refusal → Result SoFar Refusal
after_capability s n body (Ok d) = Ok (with_bytes s n body d)
after_capability s n body (Err r) = Err r

pub capability_step : (l : Limits) (s : SoFar) (id n : ℕ) (body : List ℕ) → n ≤ body_most → (s.count ≡ 0 → ⊥) → taken_said l s (Ok (said.Capability id n)) body ≡ after_capability s n body (add_capability_of l s.function.capabilities (capability id n))
capability_step l s id n body b h =
    let d = s.function.capabilities in
    ⊎_elim (λ (m : d.count < l.capabilities). rw (capability_taken l s id n body b h m, additions.add_good l d (capability id n) m))
    (λ (m : l.capabilities ≤ d.count). rw (capability_above l s id n body b h m, additions.add_full l d (capability id n) m))
    (below_or_not d.count l.capabilities)

abbrev pub after_effect : SoFar → Result Capabilities Refusal → Result SoFar Refusal
after_effect s (Ok d) = Ok (with_function s (with_capabilities s.function d))
after_effect s (Err r) = Err r

module _ (l : Limits) (s : SoFar) (id o w : ℕ) (a : EffectAccess) (body : List ℕ) (h : s.count ≡ 0 → ⊥) where
  pub effect_step : taken_said l s (Ok (said.Effect id o w a)) body ≡ after_effect s (add_effect_of l s.mask s.function.capabilities id o w a)
  effect_step =
      let d = s.function.capabilities in
      ⊎_elim (λ (n : d.count ≡ 0). rw (effect_unowned l s id o w a body h n, additions.effect_unowned l s.mask d id o w a n))
      (λ (n : d.count ≡ 0 → ⊥). ⊎_elim
      (λ (m : d.effect_count < l.effects). ⊎_elim
      (λ (e : effect_bad s.mask d o w ≡ true). rw (effect_refused l s id o w a body h n m e, additions.effect_bad_lem l s.mask d id o w a n m (bad_fault s.mask d o w e)))
      (λ (e : effect_bad s.mask d o w ≡ false). rw (effect_taken_lem l s id o w a body h n m e, additions.effect_good l s.mask d id o w a n m (λ f. both (fault_bad s.mask d o w f) e)))
      (true_or_false (effect_bad s.mask d o w)))
      (λ (m : l.effects ≤ d.effect_count). rw (effect_above l s id o w a body h n m, additions.effect_full l s.mask d id o w a n m))
      (below_or_not d.effect_count l.effects))
      (same_or_not d.count 0)
