-- What adding to a declaration gives, for any limits.
use Prim.Native.Nat.{ℕ, ◌<◌, ◌≤◌}
use mathlib.Core.Bool.{true, false}
use mathlib.Core.List.{List}
use mathlib.Core.Logic.{⊎_elim}
use mathlib.Core.Path.{◌≡◌}
use borrow.Author.Tests.{le-leb, lt-leb, eq-eqb, ne_eqb}
use Rattle.std.proofs.Common.{Ok, Err}
use Rattle.word.proofs.Tests.{true_or_false}
use Rattle.address.specs.Limits.{Limits}
use Rattle.refusal.specs.declared.refusal.Refusal.TheVariants as refusal
use Rattle.capability.specs.Effect.{effect}
use Rattle.capability.specs.Declaration.{latest, with_capability, with_effect}
use Rattle.capability.specs.BadEffect.{effect_bad}
use Rattle.capability.specs.Fault.{Fault}
use Rattle.capability.specs.Addition.{add_capability_of, add_effect_of}
use Rattle.capability.specs.declared.effect.EffectAccess.{EffectAccess}
use Rattle.capability.specs.declared.declared.Capability.{Capability}
use Rattle.capability.specs.declared.declared.Capabilities.{Capabilities}
use Rattle.capability.proofs.Faults.{fault_bad, bad_fault}

-- refused where the list is full; else the capability stands at the end
pub add_full : (l : Limits) (d : Capabilities) (c : Capability) → l.capabilities ≤ d.count → add_capability_of l d c ≡ Err refusal.AboveLimit
unfolding add_capability_of
add_full l d c h = rw (le-leb l.capabilities d.count h)

pub add_good : (l : Limits) (d : Capabilities) (c : Capability) → d.count < l.capabilities → add_capability_of l d c ≡ Ok (with_capability d c)
unfolding add_capability_of
add_good l d c h = rw (lt-leb l.capabilities d.count h)

-- an effect, in document 01's order: 3, 4, 11, or it stands at the end
module _ (l : Limits) (mask : List ℕ) (d : Capabilities) (id o w : ℕ) (a : EffectAccess) where
  pub effect_unowned : d.count ≡ 0 → add_effect_of l mask d id o w a ≡ Err refusal.OutOfOrder
  unfolding add_effect_of
  effect_unowned h = rw (eq-eqb d.count 0 h)

  pub effect_full : (d.count ≡ 0 → ⊥) → l.effects ≤ d.effect_count → add_effect_of l mask d id o w a ≡ Err refusal.AboveLimit
  unfolding add_effect_of
  effect_full h m = rw (ne_eqb d.count 0 h, le-leb l.effects d.effect_count m)

  pub effect_bad_lem : (d.count ≡ 0 → ⊥) → d.effect_count < l.effects → Fault mask d o w → add_effect_of l mask d id o w a ≡ Err refusal.BadEffect
  unfolding add_effect_of
  effect_bad_lem h m f = rw (ne_eqb d.count 0 h, lt-leb l.effects d.effect_count m, fault_bad mask d o w f)

  pub effect_good : (d.count ≡ 0 → ⊥) → d.effect_count < l.effects → (Fault mask d o w → ⊥) → add_effect_of l mask d id o w a ≡ Ok (with_effect d (effect id (latest d) o w a))
  unfolding add_effect_of
  effect_good h m f =
      ⊎_elim (λ (e : effect_bad mask d o w ≡ true). absurd (f (bad_fault mask d o w e)))
      (λ (e : effect_bad mask d o w ≡ false). rw (ne_eqb d.count 0 h, lt-leb l.effects d.effect_count m, e))
      (true_or_false (effect_bad mask d o w))
