-- The register of a slot with no BAR is zero in the power-on image, and read-only.
use Prim.Native.Nat.{ℕ, ◌+◌, ◌<◌, ◌≤◌}
use mathlib.Core.Bool.{true, false}
use mathlib.Core.List.{List, ◌++◌}
use mathlib.Core.Logic.{inr}
use mathlib.Core.Path.{◌≡◌, refl, ◌∙◌}
use native.Mathlib.Omega.{arith}
use borrow.Author.Tests.{eq-eqb}
use lib.ListN.{get_or}
use Rattle.word.proofs.Tests.{never}
use Rattle.address.specs.Kinds.{slot, register_of}
use Rattle.address.specs.Layout as layout
use Rattle.bar.specs.declared.bar_state.BarState.{BarState}
use Rattle.capability.specs.Owner.{capability_count}
use Rattle.capability.specs.declared.placed.Placed.{Placed}
use Rattle.config.specs.Admitted.{Admitted}
use Rattle.config.specs.ConfigByte.{byte_count}
use Rattle.config.specs.PowerOn.{identity_fields, intx_fields, byte_values, bar_field, bar_fields, list_fields, capability_fields, power_on_of}
use Rattle.config.specs.State.{bar_at}
use Rattle.config.specs.declared.function.Contents.{Contents}
use Rattle.config.proofs.CommandMasks.{zero_mask}
use Rattle.config.proofs.Fields.{any_has, none_has, none_append, under_none}
use Rattle.config.proofs.Headers.{Header, header_of, intx_none, list_none, header_none, low_none}
use Rattle.config.proofs.Images.{late_fields, after_intx}
use Rattle.config.proofs.Places.{bar_place}
use Rattle.config.proofs.Stages.{stage_has}
use Rattle.config.proofs.Standing.{clear, clear_none}

-- where a field of a BAR is there is a BAR
field_bar : (b : BarState) (n j : ℕ) → any_has (bar_field b n) j ≡ true → b.plan.size ≡ 0 → ⊥
field_bar b n j e z = none_has j (rw (eq-eqb b.plan.size 0 z) at e)

module _ (space : ℕ) (f : Contents) (bars : List BarState) (p : Placed) (s : Admitted space f p) where
  module _ (i j : ℕ) (h : i < layout.bar_count) (a : register_of (slot i) ≤ j) (b : j < register_of (slot i) + layout.bar_register_size) where
    register_header : Header j
    register_header = header_of j (omega arith) (λ e. omega arith) (inr (omega arith))

    pub register_unmasked : get_or (power_on_of space f bars p).mask j 0 ≡ 0
    register_unmasked = zero_mask space f bars p s j register_header (λ e. omega arith) (λ e. omega arith)

    -- no other slot has its places
    no_bar_lem : (bar_at bars i).plan.size ≡ 0 → any_has (bar_fields bars layout.bar_count) j ≡ false
    no_bar_lem z =
        never _ (λ t.
        let r = stage_has (λ n. bar_field (bar_at bars n) n) layout.bar_count j t in
        let w = bar_place (bar_at bars r.0) r.0 j r.2 in
        let q : r.0 ≡ i = omega (arith, w.from, w.to) in
        field_bar (bar_at bars r.0) r.0 j r.2 (rw q z))

    pub empty_register : (bar_at bars i).plan.size ≡ 0 → get_or (power_on_of space f bars p).image j 0 ≡ 0
    unfolding clear
    empty_register z =
        let k = capability_fields p f.bodies (capability_count p) in
        after_intx space f bars p j (omega (arith, s.wide)) ∙
        under_none _ (byte_values f (byte_count f) ++ late_fields f bars p) j
        (none_append (byte_values f (byte_count f)) (late_fields f bars p) j (header_none space f bars p s (λ b. b.value) j register_header)
        (none_append (bar_fields bars layout.bar_count) (list_fields p ++ k) j (no_bar_lem z)
        (none_append (list_fields p) k j (list_none p j (λ e. omega arith) (λ e. omega arith)) (low_none space f bars p s f.bodies j (omega arith))))) ∙
        under_none _ (intx_fields f.intx) j (intx_none f.intx j (omega arith)) ∙
        under_none 0 (identity_fields f.identity) j (clear_none (identity_fields f.identity) layout.bar_start 0x18 j refl (omega arith) (omega arith))
