-- The premise of demand 3 is needed: the file is read, its BAR placed, and the rest computes.
use Prim.Native.Nat.{ℕ}
use mathlib.Core.Bool.{true}
use mathlib.Core.List.{List}
use mathlib.Core.Path.{◌≡◌, refl, sym, ap, subst, ◌∙◌}
use native.Mathlib.Omega.{arith}
use lib.ListN.{set, replicate}
use Rattle.word.specs.Interval.{covers, overlap}
use Rattle.word.specs.Number.{number, read_at, bytes_of, merge}
use Rattle.word.specs.Search.{any_below, all_below, first_below, first_of}
use Rattle.word.specs.Store.{blend, stored}
use Rattle.word.specs.Table.{table, filled}
use Rattle.word.specs.Width.{width_ok}
use Rattle.address.specs.Check.{access_ok, access_of}
use Rattle.address.specs.Limits.{limits}
use Rattle.bar.specs.Bar.{size_ok, power_of_two}
use Rattle.bar.specs.Range.{four_gib, range, multiple, lies_in, meets}
use Rattle.bar.specs.Register.{size_mask, candidate, committed, starts_probe, class_of}
use Rattle.bar.specs.State.{shown, asks}
use Rattle.bar.specs.declared.range.Aperture.{Aperture}
use Rattle.bar.proofs.Ranges.{lies_from}
use Rattle.capability.specs.Blank.{nothing_placed}
use Rattle.capability.specs.Declaration.{none_declared}
use Rattle.capability.specs.Layout.{answer_of, layout_of}
use Rattle.capability.specs.Offset.{next_multiple, offset_at}
use Rattle.capability.specs.Owner.{region_start, in_region, owner_of}
use Rattle.capability.specs.Touch.{allows, touch_of}
use Rattle.config.specs.Command.{watched, revision_after, exhausted}
use Rattle.config.specs.ConfigByte.{byte_check_of}
use Rattle.config.specs.Field.{under, image_of, fields_below}
use Rattle.config.specs.PowerOn.{power_on_of}
use Rattle.config.specs.Read.{register_bytes, read_good, read_of}
use Rattle.config.specs.Space.{space_of}
use Rattle.config.specs.State.{in_bar}
use Rattle.config.specs.Write.{store_of, bar_step, write_good, write_of}
use Rattle.std.specs.Prelude.{Some, Ok, Result, is_ok}
use Rattle.placement.specs.Examples.{one_automatic}
use Rattle.placement.specs.Keys.{key_count, slot_bar, declared_at, bars_of}
use Rattle.placement.specs.Place.{no_range, Lowest, meets_any, is_place}
use Rattle.placement.proofs.OneAutomatic.{one_placed}
use Rattle.placement.proofs.Places.{no_place_lem}
use Rattle.placement.proofs.SameBars.{same_bars}
use Rattle.declaration.specs.Answer.{first_refusal, checked_whole, declared_from, declared_by}
use Rattle.declaration.specs.Blank.{empty_contents, empty_function, nothing_so_far}
use Rattle.declaration.specs.Finished.{opened, none_finished, finished_with, finished_so_far}
use Rattle.declaration.specs.Frame.{frame_of}
use Rattle.declaration.specs.Reading.{read_field, read_fields}
use Rattle.declaration.specs.Standing.{device_used}
use Rattle.declaration.specs.Said.{said_of}
use Rattle.declaration.specs.Tag.{tag_of, length_allowed, body_long}
use Rattle.declaration.specs.Take.{taken_said}
use Rattle.declaration.specs.Whole.{fault_of}
use Rattle.declaration.specs.declared.answer.Declaration.{Declaration}
use Rattle.declaration.proofs.ByteFiles.{all_bytes}
use Rattle.declaration.specs.declared.answer.DeclarationRefusal.{DeclarationRefusal}
use Rattle.declaration.proofs.Answered.{ok_given}
use Rattle.bus.specs.Access.{bus_read_of, range_but, ranges_but, accepts, written_on, bus_write_of}
use Rattle.bus.specs.Bus.{function_at, no_function_state, index_in, range_on}
use Rattle.bus.specs.Outcome.{declaration_of}
use Rattle.bus.specs.Start.{declared_function, declared_bars, placement_in, start_declared, start_of, bars_placed, function_start, devices_of, functions_of, bus_of, bus_given}
use Rattle.bus.specs.declared.state.Bus.{Bus}
use Rattle.enumeration.specs.Enumerate.{asked, answers_byte, identity_read, after_slot, slot_read, after_slots, list_from, list_read, enumerate_of}
use Rattle.enumeration.specs.History.{after, ran}
use Rattle.enumeration.specs.Premise.{file, probes, Mistaken, Unguarded, Needed}
use Rattle.enumeration.specs.Truth.{Accepted, started, address_in}

abbrev declaration : Declaration
declaration = declaration_of limits file

abbrev aperture : Aperture
aperture = record { start = 0xffff0000; end = four_gib }

abbrev addresses : List ℕ
addresses = set (replicate key_count 0) 2 0xffff0000

-- what the file says
record Said : Type 0 where
  answer : is_ok (declared_by limits file) ≡ true
  aperture : declaration.aperture ≡ aperture
  count : declaration.count ≡ 1
  device : (declared_function declaration 0).device ≡ 0
  bars : bars_of (declared_bars declaration) ≡ bars_of (one_automatic 0x1000)

said : Said
unfolding declared_by declared_from first_refusal checked_whole read_fields read_field frame_of tag_of length_allowed body_long said_of taken_said number read_at device_used any_below all_below first_below first_of empty_function empty_contents nothing_so_far opened none_finished finished_with finished_so_far fault_of layout_of answer_of none_declared byte_check_of size_ok power_of_two table filled declared_bars bars_of declared_at slot_bar
said = record { answer = refl; aperture = refl; count = refl; device = refl; bars = refl }

-- the start of the aperture is the lowest place
lowest : Lowest aperture 0x1000 (replicate key_count no_range) (Some 0xffff0000)
unfolding is_place meets_any any_below multiple lies_in meets overlap
lowest = (
  refl,
  λ b h. no_place_lem aperture 0x1000 (replicate key_count no_range) b (λ p. omega (arith, lies_from aperture (range b 0x1000) p.within)),
)

placed : placement_in declaration ≡ Ok addresses
placed = rw said.aperture (same_bars aperture (declared_bars declaration) (one_automatic 0x1000) addresses said.bars (one_placed aperture 0xffff0000 lowest))

start : start_of limits file ≡ Ok (bus_of declaration addresses)
unfolding start_of start_declared
start = rw (ok_given (declared_by limits file) said.answer, placed)

-- all of it computes
mistaken : Mistaken (ran (bus_of declaration addresses) probes)
unfolding declared_by declared_from first_refusal checked_whole read_fields read_field frame_of tag_of length_allowed body_long said_of taken_said number read_at device_used any_below all_below first_below first_of empty_function empty_contents nothing_so_far opened none_finished finished_with finished_so_far fault_of layout_of answer_of none_declared byte_check_of size_ok power_of_two table filled covers overlap blend stored width_ok bytes_of merge access_ok access_of multiple lies_in meets size_mask candidate committed starts_probe class_of shown asks region_start in_region owner_of allows touch_of next_multiple offset_at nothing_placed under image_of fields_below in_bar store_of bar_step write_good write_of watched revision_after exhausted power_on_of space_of register_bytes read_good read_of meets_any is_place bus_read_of range_but ranges_but accepts written_on bus_write_of no_function_state index_in range_on bars_placed function_start devices_of functions_of bus_of asked answers_byte identity_read after_slot slot_read after_slots list_from list_read enumerate_of after ran
mistaken = record { at = refl; reported = refl; moved = refl }

accepted : Accepted file
unfolding all_below
accepted = record { bytes = all_bytes file refl; answer = ap is_ok start }

its : Mistaken (ran (started file) probes)
its = subst (λ (s : Result Bus DeclarationRefusal). Mistaken (ran (bus_given s) probes)) (sym start) mistaken

-- a bus that is left as it was has its BAR where it was
unguarded : Unguarded → ⊥
unguarded all =
    let left = (all file accepted probes 0 (rw said.count (omega arith))).leaves in
    let stays : ◌≡◌ {A = ℕ} 0xfffff000 0xffff0000 = sym its.moved ∙ ap (λ (b : Bus). address_in (function_at b 0) 2) (rw said.device at left) ∙ its.at in
    omega arith

pub needed : Needed
needed = record { accepted = accepted; mistaken = its; unguarded = unguarded }
