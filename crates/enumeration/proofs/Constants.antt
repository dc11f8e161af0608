-- What no write can change reads as it was declared: a read that meets no BAR and no effect, one in the header, the identity, the pin.
use Prim.Native.Nat.{ℕ, ◌+◌, ◌-◌, ◌%◌, ◌^◌, ◌<◌, ◌≤◌}
use mathlib.Core.Bool.{true, false}
use mathlib.Core.List.{List}
use mathlib.Core.Logic.{◌⊎◌, inl, inr, ⊎_elim}
use mathlib.Core.Path.{◌≡◌, refl, ◌∙◌}
use native.Mathlib.Nat.{mod-mod, mod-eq_of_lt}
use native.Mathlib.Omega.{arith}
use lib.ListN.{get_or}
use Rattle.std.proofs.Common.{None, Ok}
use Rattle.word.specs.Number.{byte_of}
use Rattle.word.specs.Width.{width_ok}
use Rattle.word.proofs.ReadBytes.{read_bytes}
use Rattle.address.specs.Layout as layout
use Rattle.address.specs.Layout.{config_space_size}
use Rattle.address.specs.Check.{access_ok}
use Rattle.address.proofs.Accesses.{Aligned, ok_aligned, access_width_pos, access_width_most, end_fits}
use Rattle.bar.specs.declared.bar_state.BarState.{BarState}
use Rattle.capability.specs.Layout.{placed_of}
use Rattle.capability.specs.Touch.{touch_of}
use Rattle.capability.specs.declared.placed.Placed.{Placed}
use Rattle.capability.proofs.Untouched.{low_untouched}
use Rattle.config.specs.Admitted.{Admitted}
use Rattle.config.specs.PowerOn.{identity_fields, pin_of}
use Rattle.config.specs.Space.{space_of}
use Rattle.config.specs.State.{in_bar}
use Rattle.config.specs.declared.function.Function.{Function}
use Rattle.config.specs.declared.function.Intx.{Intx}
use Rattle.std.proofs.Common.{Option}
use Rattle.config.specs.declared.state.FunctionState.{FunctionState}
use Rattle.config.proofs.CommandMasks.{zero_mask}
use Rattle.config.proofs.Headers.{Header, header_of}
use Rattle.config.proofs.Identities.{vendor_stands, device_stands, revision_stands, interface_stands, subclass_stands, base_class_stands, subsystem_vendor_stands, subsystem_stands, identity_image}
use Rattle.config.proofs.Listed.{pin_image}
use Rattle.config.proofs.PlainAccesses.{plain_read}
use Rattle.config.proofs.Places.{Identified, identity_places}
use Rattle.config.proofs.Slots.{bar_before, bar_after}
use Rattle.config.proofs.Standing.{Stands, stands_has, stands_under}
use Rattle.declaration.specs.Good.{GoodIntx, absent, pinned}
use Rattle.declaration.specs.declared.answer.Declaration.{Declaration}
use Rattle.bus.specs.Bus.{function_at}
use Rattle.bus.specs.Sound.{started_function, SoundFunction, Sound}
use Rattle.bus.specs.Start.{declared_function, bars_placed, addresses_in}
use Rattle.bus.specs.declared.state.Bus.{Bus}
use Rattle.bus.proofs.Devices.{sound_read}
use Rattle.bus.proofs.SoundDeclared.{declared_power_on, sound_apart, sound_laid, sound_constant}
use Rattle.bus.proofs.SoundParts.{sound_admitted}
use Rattle.enumeration.specs.Enumerate.{asked, answers_byte, identity_read}

pin_small : (x : Option Intx) → GoodIntx x → pin_of x < 256
pin_small x absent = omega arith
pin_small x (pinned pin line a b c) = omega arith

module _ (d : Declaration) (b : Bus) (s : Sound d b) (k : ℕ) (h : k < d.count) where
  abbrev its : Function
  its = declared_function d k

  abbrev device : ℕ
  device = its.device

  abbrev now : FunctionState
  now = function_at b k

  abbrev laid : Placed
  laid = placed_of its.capabilities

  abbrev bars : List BarState
  bars = bars_placed its (addresses_in d) k

  abbrev image : List ℕ
  image = (declared_power_on d k).image

  abbrev sound : SoundFunction (started_function d k) now
  sound = s.functions k (rw s.count h)

  abbrev admitted : Admitted config_space_size its.contents laid
  admitted = sound_admitted d b s k h

  -- a read that meets no BAR and no effect gives the number whose bytes are live there
  module _ (o w : ℕ) (a : Aligned config_space_size o w) (e : in_bar now.bars o ≡ false) (t : touch_of now.placed o w false ≡ Ok None) where
    pub plain_given : w ≡ 1 → answers_byte b device o ≡ true
    unfolding answers_byte space_of
    plain_given q = rw (sound_read d b s k h o 1, plain_read now o 1 (rw q at a) e (rw q at t))

    pub plain_asked : (v : ℕ) → ((i : ℕ) → i < w → get_or now.live (o + i) 0 ≡ byte_of v i) → asked b device o w ≡ v % 256 ^ w
    unfolding asked space_of
    plain_asked v each =
        rw (sound_read d b s k h o w, plain_read now o w a e t, read_bytes now.live o w v (omega (arith, access_width_most config_space_size o w a)) (rw sound.long (end_fits config_space_size o w refl a)) each)
        (mod-mod v (256 ^ w))

  -- in the header, outside the BARs and the command, at places of no config byte
  module _ (o w : ℕ) (a : Aligned config_space_size o w) (low : o + w ≤ layout.standard_header_end) (out : (o < layout.bar_start) ⊎ (layout.bar_end ≤ o)) where
    pub header_asked : (v : ℕ) → ((i : ℕ) → i < w → Header (o + i)) → ((o + w ≤ layout.command) ⊎ (layout.status ≤ o)) → ((i : ℕ) → i < w → get_or image (o + i) 0 ≡ byte_of v i) → asked b device o w ≡ v % 256 ^ w
    header_asked v header apart each =
        plain_asked o w a (⊎_elim (λ l. bar_before now.bars o l) (λ l. bar_after now.bars o l) out)
        (low_untouched now.placed (sound_apart d b s k h) config_space_size (sound_laid d b s k h) o w false (omega arith)) v
        (λ i l. sound_constant d b s k h (o + i) (zero_mask config_space_size its.contents bars laid admitted (o + i) (header i l) (λ e. ⊎_elim (λ p. omega arith) (λ p. omega arith) apart) (λ e. ⊎_elim (λ p. omega arith) (λ p. omega arith) apart)) ∙ each i l)

  -- so one byte of it
  pub header_byte_lem : (o v : ℕ) → access_ok config_space_size o 1 ≡ true → Header o → ((o < layout.bar_start) ⊎ (layout.bar_end ≤ o)) → ((o + 1 ≤ layout.command) ⊎ (layout.status ≤ o)) → get_or image o 0 ≡ v → v < 256 → asked b device o 1 ≡ v
  header_byte_lem o v ok header out apart e l =
      header_asked o 1 (ok_aligned config_space_size o 1 ok) (omega (arith, header.low)) out v
      (λ i m. let z : o + i ≡ o = omega arith in rw z header) apart
      (λ i m. let z : o + i ≡ o = omega arith in let y : i ≡ 0 = omega arith in rw (z, y) (e ∙ omega arith)) ∙
      mod-eq_of_lt l

  -- a number of the identity
  identity_asked : (o w v : ℕ) → Aligned config_space_size o w → ((o + w ≤ layout.command) ⊎ (layout.status ≤ o)) → Stands o w v (identity_fields its.contents.identity) → v < 256 ^ w → asked b device o w ≡ v
  identity_asked o w v a apart t l =
      let z = access_width_pos config_space_size o w a in
      let at : (i : ℕ) → i < w → Identified (o + i) = λ i m. identity_places its.contents.identity (o + i) (stands_has i t m) in
      let first = at 0 z in
      let last = at (w - 1) (omega arith) in
      header_asked o w a (omega (arith, last.low)) (⊎_elim (λ p. inl (omega arith)) (λ p. inr (omega arith)) first.no_bar) v
      (λ i m. header_of (o + i) (omega (arith, (at i m).low)) (λ e. omega (arith, (at i m).low)) (at i m).no_byte) apart
      (λ i m. identity_image config_space_size its.contents bars laid admitted (o + i) (stands_has i t m) ∙ stands_under 0 i t m) ∙
      mod-eq_of_lt l

  pub vendor_asked : asked b device layout.vendor_id 2 ≡ its.contents.identity.vendor
  unfolding access_ok width_ok
  vendor_asked = identity_asked layout.vendor_id 2 its.contents.identity.vendor (ok_aligned config_space_size layout.vendor_id 2 refl) (inl (omega arith)) (vendor_stands its.contents.identity) (s.good.functions.each k).contents.identity.vendor

  pub identity_read_lem : identity_read b device ≡ its.contents.identity
  unfolding identity_read access_ok width_ok
  identity_read_lem =
      let i = its.contents.identity in
      let g = (s.good.functions.each k).contents.identity in
      rw (
        vendor_asked,
        identity_asked layout.device_id 2 i.device (ok_aligned config_space_size layout.device_id 2 refl) (inl (omega arith)) (device_stands i) g.device,
        identity_asked layout.subsystem_vendor_id 2 i.subsystem_vendor (ok_aligned config_space_size layout.subsystem_vendor_id 2 refl) (inr (omega arith)) (subsystem_vendor_stands i) g.subsystem_vendor,
        identity_asked layout.subsystem_device_id 2 i.subsystem (ok_aligned config_space_size layout.subsystem_device_id 2 refl) (inr (omega arith)) (subsystem_stands i) g.subsystem,
        identity_asked layout.revision 1 i.revision (ok_aligned config_space_size layout.revision 1 refl) (inr (omega arith)) (revision_stands i) g.revision,
        identity_asked layout.base_class 1 i.base_class (ok_aligned config_space_size layout.base_class 1 refl) (inr (omega arith)) (base_class_stands i) g.base_class,
        identity_asked layout.subclass 1 i.subclass (ok_aligned config_space_size layout.subclass 1 refl) (inr (omega arith)) (subclass_stands i) g.subclass,
        identity_asked layout.programming_interface 1 i.programming_interface (ok_aligned config_space_size layout.programming_interface 1 refl) (inr (omega arith)) (interface_stands i) g.programming_interface,
      )

  pub pin_asked : asked b device layout.interrupt_pin 1 ≡ pin_of its.contents.intx
  unfolding access_ok width_ok
  pin_asked =
      let l = pin_small its.contents.intx (s.good.functions.each k).contents.intx in
      header_byte_lem layout.interrupt_pin (pin_of its.contents.intx) refl (header_of layout.interrupt_pin (omega arith) (λ e. omega arith) (inr (omega arith))) (inr (omega arith)) (inr (omega arith))
      (pin_image config_space_size its.contents bars laid admitted ∙ mod-eq_of_lt l) l
