-- The header of the power-on image and of the masks: no config byte and no capability reaches a place of it but three.
use Prim.Native.Nat.{ℕ, ◌<◌, ◌≤◌}
use mathlib.Core.Bool.{false}
use mathlib.Core.List.{List, ◌++◌}
use mathlib.Core.Logic.{◌⊎◌, ⊎_elim}
use mathlib.Core.Path.{◌≡◌, ◌∙◌}
use native.Mathlib.Omega.{arith}
use lib.ListN.{get_or}
use Rattle.address.specs.Layout as layout
use Rattle.address.specs.Layout.{standard_header_end, bar_count}
use Rattle.word.proofs.Tests.{both, never}
use Rattle.word.proofs.Intervals.{covers_within}
use Rattle.bar.specs.declared.bar_state.BarState.{BarState}
use Rattle.capability.specs.Owner.{capability_count}
use Rattle.capability.specs.declared.placed.Placed.{Placed}
use Rattle.capability.proofs.Extents.{extent_within}
use Rattle.config.specs.Admitted.{Admitted}
use Rattle.config.specs.ConfigByte.{byte_count, byte_ok}
use Rattle.config.specs.Field.{under}
use Rattle.config.specs.PowerOn.{identity_fields, intx_fields, command_fields, config_fields, byte_values, byte_masks, bar_fields, list_fields, capability_fields, capability_masks, power_on_of}
use Rattle.config.specs.declared.function.ConfigByte.{ConfigByte}
use Rattle.config.specs.declared.function.Contents.{Contents}
use Rattle.config.specs.declared.function.Intx.{Intx}
use Rattle.std.proofs.Common.{Option}
use Rattle.config.proofs.Fields.{any_has, none_append, under_front, under_back, under_none}
use Rattle.config.proofs.Images.{late_fields, after_intx, mask_byte}
use Rattle.config.proofs.Layings.{starts_from}
use Rattle.config.proofs.Placeable.{good_each, header_not_ok}
use Rattle.config.proofs.Places.{intx_places, config_places, bar_places, list_places, capability_places, masks_places}

-- a place of the header where no config byte may stand
pub record Header (j : ℕ) : Type 0 where
  pub low : j < standard_header_end
  pub not_line_size : j ≡ layout.cache_line_size → ⊥
  pub not_timer : j ≡ layout.latency_timer → ⊥
  pub not_line : j ≡ layout.interrupt_line → ⊥

pub header_of : (j : ℕ) → j < standard_header_end → (j ≡ layout.interrupt_line → ⊥) → (j < layout.cache_line_size) ⊎ (layout.header_type ≤ j) → Header j
header_of j h n c =
    record { low = h; not_line_size = λ e. ⊎_elim (λ a. omega arith) (λ a. omega arith) c; not_timer = λ e. ⊎_elim (λ a. omega arith) (λ a. omega arith) c; not_line = n }

-- what INTx and the list do not have
pub intx_none : (x : Option Intx) (j : ℕ) → j < layout.interrupt_line → any_has (intx_fields x) j ≡ false
intx_none x j h = never _ (λ t. omega (arith, (intx_places x j t).from))

pub list_none : (p : Placed) (j : ℕ) → (j ≡ layout.status → ⊥) → (j ≡ layout.capability_pointer → ⊥) → any_has (list_fields p) j ≡ false
list_none p j a b = never _ (λ t. ⊎_elim a b (list_places p j t))

module _ (space : ℕ) (f : Contents) (bars : List BarState) (p : Placed) (s : Admitted space f p) where
  -- what config bytes, BARs and capabilities do not have
  pub bytes_none : (g : ConfigByte → ℕ) (j : ℕ) → byte_ok space p j ≡ false → any_has (config_fields g f.bytes (byte_count f)) j ≡ false
  bytes_none g j e = never _ (λ t. both (config_places (byte_ok space p) g f.bytes (byte_count f) j (good_each space f p s.checked) t) e)

  pub header_none : (g : ConfigByte → ℕ) (j : ℕ) → Header j → any_has (config_fields g f.bytes (byte_count f)) j ≡ false
  header_none g j h = bytes_none g j (header_not_ok space p j h.low h.not_line_size h.not_timer h.not_line)

  bars_none : (j : ℕ) → (j < layout.bar_start) ⊎ (layout.bar_end ≤ j) → any_has (bar_fields bars bar_count) j ≡ false
  bars_none j h = never _ (λ t. let w = bar_places bars bar_count j t in ⊎_elim (λ a. omega (arith, w.from)) (λ a. omega (arith, w.to)) h)

  pub low_none : (bytes : List ℕ) (j : ℕ) → j < standard_header_end → any_has (capability_fields p bytes (capability_count p)) j ≡ false
  low_none bytes j h =
      never _ (λ t.
      let r = capability_places p bytes j (capability_count p) t in
      omega (arith, (extent_within p j r.0 r.2).from, starts_from p s.laid r.0 r.1))

  low_unmasked : (j : ℕ) → j < standard_header_end → any_has (capability_masks p f.masks (capability_count p)) j ≡ false
  low_unmasked j h =
      never _ (λ t.
      let r = masks_places p f.masks j (capability_count p) t in
      omega (arith, (covers_within _ _ j r.2).from, starts_from p s.laid r.0 r.1))

  -- such a place outside the BARs is the identity's, INTx's or the list's
  pub header_image : (j : ℕ) → Header j → (j < layout.bar_start) ⊎ (layout.bar_end ≤ j) → get_or (power_on_of space f bars p).image j 0 ≡ under (under (under 0 (identity_fields f.identity) j) (intx_fields f.intx) j) (list_fields p) j
  header_image j h b =
      let u = under (under 0 (identity_fields f.identity) j) (intx_fields f.intx) j in
      let k = capability_fields p f.bodies (capability_count p) in
      after_intx space f bars p j (omega (arith, h.low, s.wide)) ∙ under_back u (byte_values f (byte_count f)) (late_fields f bars p) j (header_none (λ b. b.value) j h) ∙
      under_back u (bar_fields bars bar_count) (list_fields p ++ k) j (bars_none j b) ∙ under_front u (list_fields p) k j (low_none f.bodies j h.low)

  -- before INTx, where the identity has none, it is the list's, or blank
  pub list_image : (j : ℕ) → Header j → (j < layout.bar_start) ⊎ (layout.bar_end ≤ j) → j < layout.interrupt_line → any_has (identity_fields f.identity) j ≡ false → get_or (power_on_of space f bars p).image j 0 ≡ under 0 (list_fields p) j
  list_image j h b l n =
      header_image j h b ∙ rw (under_none 0 (identity_fields f.identity) j n, under_none 0 (intx_fields f.intx) j (intx_none f.intx j l))

  pub blank_image : (j : ℕ) → Header j → (j < layout.bar_start) ⊎ (layout.bar_end ≤ j) → j < layout.interrupt_line → any_has (identity_fields f.identity) j ≡ false → (j ≡ layout.status → ⊥) → (j ≡ layout.capability_pointer → ⊥) → get_or (power_on_of space f bars p).image j 0 ≡ 0
  blank_image j h b l n x y = list_image j h b l n ∙ under_none 0 (list_fields p) j (list_none p j x y)

  -- "everything else is .. read-only": a place of the header has the command's mask, or none
  pub header_mask : (j : ℕ) → Header j → get_or (power_on_of space f bars p).mask j 0 ≡ under 0 command_fields j
  header_mask j h =
      let c = byte_masks f (byte_count f) in
      let m = capability_masks p f.masks (capability_count p) in
      mask_byte space f bars p j (omega (arith, h.low, s.wide)) ∙ under_front 0 command_fields (c ++ m) j (none_append c m j (header_none (λ b. b.mask) j h) (low_unmasked j h.low))
