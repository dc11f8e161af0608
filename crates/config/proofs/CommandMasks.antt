-- The masks of the header: "0x06 at 0x04, 0x04 at 0x05", and nothing else but at config bytes.
use Prim.Native.Nat.{ℕ, ◌+◌}
use mathlib.Core.Bool.{false}
use mathlib.Core.List.{List}
use mathlib.Core.Logic.{inl, ⊎_elim}
use mathlib.Core.Path.{◌≡◌, refl, ◌∙◌}
use native.Mathlib.Omega.{arith}
use lib.ListN.{get_or}
use Rattle.address.specs.Layout as layout
use Rattle.word.proofs.Tests.{never}
use Rattle.bar.specs.declared.bar_state.BarState.{BarState}
use Rattle.capability.specs.declared.placed.Placed.{Placed}
use Rattle.config.specs.Admitted.{Admitted}
use Rattle.config.specs.Command.{command_low, command_high}
use Rattle.config.specs.PowerOn.{command_fields, power_on_of}
use Rattle.config.specs.declared.function.Contents.{Contents}
use Rattle.config.proofs.Fields.{any_has, under_none}
use Rattle.config.proofs.Headers.{Header, header_of, header_mask}
use Rattle.config.proofs.Places.{command_places}
use Rattle.config.proofs.Standing.{clear, here, later, stands_byte}

pub command_none : (j : ℕ) → (j ≡ layout.command → ⊥) → (j ≡ (layout.command + 1) → ⊥) → any_has command_fields j ≡ false
command_none j a b = never _ (λ t. ⊎_elim a b (command_places j t))

module _ (space : ℕ) (f : Contents) (bars : List BarState) (p : Placed) (s : Admitted space f p) where
  pub zero_mask : (j : ℕ) → Header j → (j ≡ layout.command → ⊥) → (j ≡ (layout.command + 1) → ⊥) → get_or (power_on_of space f bars p).mask j 0 ≡ 0
  zero_mask j h a b = header_mask space f bars p s j h ∙ under_none 0 command_fields j (command_none j a b)

  pub command_mask : get_or (power_on_of space f bars p).mask layout.command 0 ≡ command_low
  unfolding clear
  command_mask =
      header_mask space f bars p s layout.command (header_of layout.command (omega arith) (λ e. omega arith) (inl (omega arith))) ∙ stands_byte {o = layout.command} {v = command_low} {fs = command_fields} 0 (here refl)

  pub command_mask_high : get_or (power_on_of space f bars p).mask (layout.command + 1) 0 ≡ command_high
  unfolding clear
  command_mask_high =
      header_mask space f bars p s (layout.command + 1) (header_of (layout.command + 1) (omega arith) (λ e. omega arith) (inl (omega arith))) ∙ stands_byte {o = layout.command + 1} {v = command_high} {fs = command_fields} 0 (later (here refl))
