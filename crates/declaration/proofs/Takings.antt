-- What a field does by the answers of the constructors below: the refusal of the first check that fails, or the declaration with the field.
use Prim.Native.Nat.{ℕ, ◌<◌, ◌≤◌}
use mathlib.Core.Bool.{true, false}
use mathlib.Core.List.{List}
use mathlib.Core.Path.{◌≡◌}
use native.Mathlib.Omega.{arith}
use borrow.Author.Tests.{lt-ltb, le-ltb, le-leb, lt-leb}
use lib.Dec.{ltb}
use Rattle.std.specs.Prelude.{is_some, Ok, Err}
use Rattle.refusal.specs.declared.refusal.Refusal.{Refusal}
use Rattle.refusal.specs.declared.refusal.Refusal.TheVariants.{OutOfOrder, AboveLimit, BadDeviceOrSlot, BadEffect}
use Rattle.word.specs.Search.{all_below}
use Rattle.address.specs.Layout.{bar_count}
use Rattle.address.specs.Limits.{Limits}
use Rattle.bar.specs.Range.{four_gib, aperture_of}
use Rattle.bar.specs.Bar.{size_ok, bar_of}
use Rattle.bar.specs.declared.memory_bar.Request.{Request}
use Rattle.bar.specs.declared.range.Aperture.{Aperture}
use Rattle.bar.proofs.Ranges.{aperture_is, aperture_refused}
use Rattle.bar.proofs.Sizes.{bar_refused}
use Rattle.address.specs.Kinds.{slot_of}
use Rattle.address.specs.declared.slot.Slot.{Slot}
use Rattle.address.proofs.Slots.{slot_refused}
use Rattle.capability.specs.Size.{body_most}
use Rattle.capability.specs.BadEffect.{effect_bad}
use Rattle.capability.specs.Declaration.{capability_of}
use Rattle.capability.specs.declared.effect.EffectAccess.{EffectAccess}
use Rattle.declaration.specs.Standing.{slot_used}
use Rattle.declaration.specs.Take.{with_field, taken_said, taken_of}
use Rattle.declaration.specs.declared.said.Said.TheVariants as said
use Rattle.declaration.specs.declared.so_far.SoFar.{SoFar}
use Rattle.declaration.specs.Said.{said_of}
use Rattle.declaration.proofs.Made.{capability_refused}
use Rattle.declaration.proofs.Saids.{said_refusal}

-- an aperture
module _ (l : Limits) (s : SoFar) (start end : ℕ) (body : List ℕ) (h : is_some s.aperture ≡ false) where
  pub aperture_not_taken : (r : Refusal) → aperture_of four_gib start end ≡ Err r → taken_said l s (Ok (said.Aperture start end)) body ≡ Err r
  unfolding taken_said
  aperture_not_taken r e = rw (h, (aperture_refused four_gib start end r e).1, (aperture_refused four_gib start end r e).0)

  pub aperture_taken : (a : Aperture) → aperture_of four_gib start end ≡ Ok a → taken_said l s (Ok (said.Aperture start end)) body ≡ Ok (with_field s (said.Aperture start end) body)
  unfolding taken_said
  aperture_taken a e = let r = aperture_is four_gib start end a e in rw (h, lt-ltb start end r.1, le-leb end four_gib r.2)

-- a function is there
present : (s : SoFar) → (s.count ≡ 0 → ⊥) → ltb 0 s.count ≡ true
present s h = lt-ltb 0 s.count (omega arith)

none : (s : SoFar) → s.count ≡ 0 → ltb 0 s.count ≡ false
none s h = le-ltb 0 s.count (omega arith)

-- a BAR
module _ (l : Limits) (s : SoFar) (k size : ℕ) (request : Request) (body : List ℕ) (h : s.count ≡ 0 → ⊥) (a : all_below (slot_used s.function) bar_count ≡ false) where
  pub bar_no_slot : (r : Refusal) → slot_of k ≡ Err r → taken_said l s (Ok (said.Bar k size request)) body ≡ Err r
  unfolding taken_said
  bar_no_slot r e = let q = slot_refused k r e in rw (present s h, a, le-leb bar_count k q.1, q.0)

  module _ (b : k < bar_count) where
    pub bar_used : slot_used s.function k ≡ true → taken_said l s (Ok (said.Bar k size request)) body ≡ Err BadDeviceOrSlot
    unfolding taken_said
    bar_used u = rw (present s h, a, lt-leb bar_count k b, u)

    module _ (u : slot_used s.function k ≡ false) where
      pub bar_bad_size : (i : Slot) (r : Refusal) → bar_of i size request ≡ Err r → taken_said l s (Ok (said.Bar k size request)) body ≡ Err r
      unfolding taken_said
      bar_bad_size i r e = let q = bar_refused i size request r e in rw (present s h, a, lt-leb bar_count k b, u, q.1, q.0)

      pub bar_taken : size_ok size ≡ true → taken_said l s (Ok (said.Bar k size request)) body ≡ Ok (with_field s (said.Bar k size request) body)
      unfolding taken_said
      bar_taken e = rw (present s h, a, lt-leb bar_count k b, u, e)

-- a capability
module _ (l : Limits) (s : SoFar) (id n : ℕ) (body : List ℕ) where
  pub capability_long : (r : Refusal) → capability_of id n ≡ Err r → taken_said l s (Ok (said.Capability id n)) body ≡ Err r
  unfolding taken_said
  capability_long r e = let q = capability_refused id n r e in rw (lt-ltb body_most n q.1, q.0)

  module _ (b : n ≤ body_most) where
    pub capability_early : s.count ≡ 0 → taken_said l s (Ok (said.Capability id n)) body ≡ Err OutOfOrder
    unfolding taken_said
    capability_early h = rw (le-ltb body_most n b, none s h)

    module _ (h : s.count ≡ 0 → ⊥) where
      pub capability_above : l.capabilities ≤ s.function.capabilities.count → taken_said l s (Ok (said.Capability id n)) body ≡ Err AboveLimit
      unfolding taken_said
      capability_above m = rw (le-ltb body_most n b, present s h, le-leb l.capabilities s.function.capabilities.count m)

      pub capability_taken : s.function.capabilities.count < l.capabilities → taken_said l s (Ok (said.Capability id n)) body ≡ Ok (with_field s (said.Capability id n) body)
      unfolding taken_said
      capability_taken m = rw (le-ltb body_most n b, present s h, lt-leb l.capabilities s.function.capabilities.count m)

-- an effect
module _ (l : Limits) (s : SoFar) (id o w : ℕ) (access : EffectAccess) (body : List ℕ) where
  module _ (h : s.count ≡ 0 → ⊥) where
    pub effect_unowned : s.function.capabilities.count ≡ 0 → taken_said l s (Ok (said.Effect id o w access)) body ≡ Err OutOfOrder
    unfolding taken_said
    effect_unowned n = rw (present s h, le-ltb 0 s.function.capabilities.count (omega arith))

    module _ (n : s.function.capabilities.count ≡ 0 → ⊥) where
      pub effect_above : l.effects ≤ s.function.capabilities.effect_count → taken_said l s (Ok (said.Effect id o w access)) body ≡ Err AboveLimit
      unfolding taken_said
      effect_above m = rw (present s h, lt-ltb 0 s.function.capabilities.count (omega arith), le-leb l.effects s.function.capabilities.effect_count m)

      module _ (m : s.function.capabilities.effect_count < l.effects) where
        pub effect_refused : effect_bad s.mask s.function.capabilities o w ≡ true → taken_said l s (Ok (said.Effect id o w access)) body ≡ Err BadEffect
        unfolding taken_said
        effect_refused e = rw (present s h, lt-ltb 0 s.function.capabilities.count (omega arith), lt-leb l.effects s.function.capabilities.effect_count m, e)

        pub effect_taken_lem : effect_bad s.mask s.function.capabilities o w ≡ false → taken_said l s (Ok (said.Effect id o w access)) body ≡ Ok (with_field s (said.Effect id o w access) body)
        unfolding taken_said
        effect_taken_lem e = rw (present s h, lt-ltb 0 s.function.capabilities.count (omega arith), lt-leb l.effects s.function.capabilities.effect_count m, e)

-- a body that says nothing
pub bad_taken : (l : Limits) (s : SoFar) (tag : ℕ) (body : List ℕ) (r : Refusal) → said_of tag body ≡ Err r → taken_of l s tag body ≡ Err r
unfolding taken_said
bad_taken l s tag body r e = rw (e, said_refusal tag body r e)
