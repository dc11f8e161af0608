-- Status, capability pointer and interrupt pin in the power-on image.
use Prim.Native.Nat.{ℕ, ◌+◌, ◌%◌}
use mathlib.Core.Bool.{true, false, cond}
use mathlib.Core.List.{List, [], ◌∷◌}
use mathlib.Core.Logic.{inl, inr, ⊎_elim}
use mathlib.Core.Path.{◌≡◌, refl, ◌∙◌}
use native.Mathlib.Omega.{arith}
use borrow.Author.Tests.{eqb-true}
use lib.Dec.{eqb}
use lib.ListN.{get_or}
use Rattle.address.specs.Layout as layout
use Rattle.word.proofs.Tests.{true_or_false}
use Rattle.bar.specs.declared.bar_state.BarState.{BarState}
use Rattle.capability.specs.Owner.{capability_count, start_of}
use Rattle.capability.specs.declared.placed.Placed.{Placed}
use Rattle.config.specs.Admitted.{Admitted}
use Rattle.config.specs.Field.{at, under}
use Rattle.config.specs.PowerOn.{identity_fields, intx_fields, pin_of, list_fields, power_on_of}
use Rattle.config.specs.declared.function.Contents.{Contents}
use Rattle.config.specs.declared.function.Intx.{Intx}
use Rattle.std.proofs.Common.{Option, None, Some}
use Rattle.config.proofs.Fields.{under_end, under_none}
use Rattle.config.proofs.Headers.{header_of, list_none, header_image, list_image, blank_image}
use Rattle.config.proofs.Layings.{start_past, start_byte}
use Rattle.config.proofs.Standing.{clear, clear_none, here, later, stands_byte}

-- the two fields of the list, where there is a capability
status_listed : (p : Placed) → under 0 (list_fields p) layout.status ≡ cond (eqb (capability_count p) 0) 0 layout.capabilities_list
unfolding clear
status_listed p =
    ⊎_elim (λ (t : eqb (capability_count p) 0 ≡ true). rw t (under_end 0 layout.status))
    (λ (t : eqb (capability_count p) 0 ≡ false). rw t (stands_byte {o = layout.status} {v = layout.capabilities_list} {fs = at layout.status 1 layout.capabilities_list ∷ at layout.capability_pointer 1 (start_of p 0) ∷ []} 0 (here refl)))
    (true_or_false (eqb (capability_count p) 0))

pointer_listed : (p : Placed) → under 0 (list_fields p) layout.capability_pointer ≡ start_of p 0 % 256
unfolding clear
pointer_listed p =
    ⊎_elim (λ (t : eqb (capability_count p) 0 ≡ true). rw (t, start_past p 0 (omega (arith, eqb-true (capability_count p) 0 t))) (under_end 0 layout.capability_pointer))
    (λ (t : eqb (capability_count p) 0 ≡ false). rw t (stands_byte {o = layout.capability_pointer} {v = start_of p 0} {fs = at layout.status 1 layout.capabilities_list ∷ at layout.capability_pointer 1 (start_of p 0) ∷ []} 0 (later (here refl))))
    (true_or_false (eqb (capability_count p) 0))

pin_under : (x : Option Intx) → under 0 (intx_fields x) layout.interrupt_pin ≡ pin_of x % 256
unfolding clear
pin_under None = under_end 0 layout.interrupt_pin
pin_under (Some x) = stands_byte {o = layout.interrupt_pin} {v = x.pin} {fs = intx_fields (Some x)} 0 (later (here refl))

module _ (space : ℕ) (f : Contents) (bars : List BarState) (p : Placed) (s : Admitted space f p) where
  -- "With any capability, status gets 0x10 and 0x34 the first offset."
  pub status_image : get_or (power_on_of space f bars p).image layout.status 0 ≡ cond (eqb (capability_count p) 0) 0 layout.capabilities_list
  unfolding clear
  status_image =
      list_image space f bars p s layout.status (header_of layout.status (omega arith) (λ e. omega arith) (inl (omega arith))) (inl (omega arith)) (omega arith)
      (clear_none (identity_fields f.identity) layout.status 1 layout.status refl (omega arith) (omega arith)) ∙ status_listed p

  pub status_high : get_or (power_on_of space f bars p).image (layout.status + 1) 0 ≡ 0
  unfolding clear
  status_high =
      blank_image space f bars p s (layout.status + 1) (header_of (layout.status + 1) (omega arith) (λ e. omega arith) (inl (omega arith))) (inl (omega arith)) (omega arith)
      (clear_none (identity_fields f.identity) (layout.status + 1) 1 (layout.status + 1) refl (omega arith) (omega arith)) (λ e. omega arith) (λ e. omega arith)

  pub pointer_image : get_or (power_on_of space f bars p).image layout.capability_pointer 0 ≡ start_of p 0
  unfolding clear
  pointer_image =
      list_image space f bars p s layout.capability_pointer (header_of layout.capability_pointer (omega arith) (λ e. omega arith) (inr (omega arith))) (inr (omega arith)) (omega arith)
      (clear_none (identity_fields f.identity) layout.capability_pointer 1 layout.capability_pointer refl (omega arith) (omega arith)) ∙ pointer_listed p ∙ omega (arith, start_byte p s.laid 0)

  -- the pin, 0 without INTx
  pub pin_image : get_or (power_on_of space f bars p).image layout.interrupt_pin 0 ≡ pin_of f.intx % 256
  unfolding clear
  pin_image =
      header_image space f bars p s layout.interrupt_pin (header_of layout.interrupt_pin (omega arith) (λ e. omega arith) (inr (omega arith))) (inr (omega arith)) ∙
      under_none (under (under 0 (identity_fields f.identity) layout.interrupt_pin) (intx_fields f.intx) layout.interrupt_pin) (list_fields p) layout.interrupt_pin (list_none p layout.interrupt_pin (λ e. omega arith) (λ e. omega arith)) ∙
      rw (under_none 0 (identity_fields f.identity) layout.interrupt_pin (clear_none (identity_fields f.identity) layout.interrupt_pin 1 layout.interrupt_pin refl (omega arith) (omega arith))) (pin_under f.intx)
