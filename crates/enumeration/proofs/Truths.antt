-- Enumeration tells the truth of a declared function on a sound bus, and leaves the bus; of any other device it says "absent".
use Prim.Native.Nat.{ℕ, ◌+◌, ◌<◌, ◌≤◌}
use mathlib.Core.Path.{◌≡◌, refl, ap, ◌∙◌}
use native.Mathlib.Omega.{arith}
use borrow.Author.Tests.{ne_eqb}
use Rattle.word.specs.Width.{width_ok}
use Rattle.word.proofs.Widths.{width_pos}
use Rattle.address.specs.Check.{access_ok}
use Rattle.address.specs.Layout as layout
use Rattle.address.specs.Layout.{config_space_size, bar_count}
use Rattle.address.proofs.Accesses.{access_good, ok_aligned}
use Rattle.bar.specs.Range.{four_gib}
use Rattle.config.specs.declared.function.Function.{Function}
use Rattle.config.specs.declared.state.FunctionState.{FunctionState}
use Rattle.declaration.specs.declared.answer.Declaration.{Declaration}
use Rattle.bus.specs.Bus.{function_at}
use Rattle.bus.specs.Lookup.{most_lookup, decodes}
use Rattle.bus.specs.Sound.{Sound}
use Rattle.bus.specs.Start.{declared_function}
use Rattle.bus.specs.declared.state.Bus.{Bus}
use Rattle.bus.proofs.Devices.{sound_device, sound_no_read}
use Rattle.bus.proofs.LookupExact.{hit_width, hit_its, lookup_within}
use Rattle.bus.proofs.SoundParts.{sound_plan}
use Rattle.enumeration.specs.Enumerate.{asked, enumerate_of}
use Rattle.enumeration.specs.Truth.{slot_report, size_in, address_in, declared_report, slot_in, Quiet, Used, UsedOnly, Truth, Absent}
use Rattle.enumeration.specs.declared.report.Report.{Report}
use Rattle.enumeration.specs.declared.whole.Enumerated.{Enumerated}
use Rattle.enumeration.proofs.AllSlots.{slots_leave, slots_truth}
use Rattle.enumeration.proofs.CapabilityLists.{list_truth}
use Rattle.enumeration.proofs.Constants.{vendor_asked, identity_read_lem, pin_asked}
use Rattle.enumeration.proofs.TrueReports.{slot_by_lem, slot_as, reported_slot}

module _ (d : Declaration) (b : Bus) (s : Sound d b) where
  module _ (k : ℕ) (h : k < d.count) (quiet : Quiet (function_at b k)) where
    abbrev its : Function
    its = declared_function d k

    abbrev now : FunctionState
    now = function_at b k

    whole : enumerate_of b its.device ≡ record { report = declared_report its now; bus = b }
    unfolding enumerate_of
    whole =
        rw (
          vendor_asked d b s k h,
          ne_eqb its.contents.identity.vendor layout.absent_vendor_id (s.good.functions.each k).contents.identity.present,
          identity_read_lem d b s k h,
          pin_asked d b s k h,
          slots_truth d b s k h quiet,
          slots_leave d b s k h quiet bar_count (omega arith),
          list_truth d b s k h,
        )

    pub report_sound : (enumerate_of b its.device).report ≡ declared_report its now
    report_sound = ap (λ (e : Enumerated). e.report) whole

    pub leaves_sound : (enumerate_of b its.device).bus ≡ b
    leaves_sound = ap (λ (e : Enumerated). e.bus) whole

    reported : (i : ℕ) → i < bar_count → slot_in (enumerate_of b its.device).report i ≡ slot_report (size_in its i) (address_in now i)
    reported i l = ap (λ (r : Report). slot_in r i) report_sound ∙ reported_slot its now i l

    -- an access that lies in a reported slot lies in the BAR there
    uses_sound : (i : ℕ) → i < bar_count → Used b (decodes now) its.device i (slot_report (size_in its i) (address_in now i))
    uses_sound i l =
        slot_by_lem (size_in its i) (address_in now i) (Used b (decodes now) its.device i)
        (λ x w e p q. absurd (omega (arith, width_pos most_lookup w e)))
        (λ x w e p q. rw (← sound_device d b s k h) (lookup_within d b s k i h l x w e p (rw (sound_plan d b s k h i l) q)))

    -- and an access that is answered with its device and a slot lies in the slot as it is reported
    only_sound : (i : ℕ) → (size_in its i ≡ four_gib → ⊥) → UsedOnly b its.device i (slot_in (enumerate_of b its.device).report i)
    only_sound i f x w o e =
        let r = hit_its d b s k h x w i o e in
        let l = r.0.slot in
        let p = r.0.from in
        let q : x + w ≤ address_in now i + size_in its i = rw (sound_plan d b s k h i l) at r.0.to in
        let z : 0 < size_in its i = omega (arith, width_pos most_lookup w (hit_width b x w its.device i o e)) in
        rw (reported i l, slot_as (size_in its i) (address_in now i) z f) (record { from = p; to = q; offset = r.1 })

    pub truth_sound : Truth d b k
    truth_sound = record { report = report_sound; leaves = leaves_sound; uses = λ i l. rw (reported i l) (uses_sound i l); only = only_sound }

  pub absent_sound : (device : ℕ) → Absent d b device
  unfolding enumerate_of asked access_ok width_ok
  absent_sound device none =
      rw (sound_no_read d b s device none layout.vendor_id 2, access_good config_space_size layout.vendor_id 2 (ok_aligned config_space_size layout.vendor_id 2 refl))
