-- A BAR that moves: the bus of the Run file is that of its declaration, and the rest computes.
use mathlib.Core.Path.{refl, sym, ap, subst}
use Rattle.std.specs.Prelude.{Result, is_ok}
use Rattle.word.specs.Interval.{covers, overlap}
use Rattle.word.specs.Number.{number, read_at, bytes_of, merge}
use Rattle.word.specs.Search.{any_below, all_below, first_below, first_of}
use Rattle.word.specs.Store.{blend, stored}
use Rattle.word.specs.Table.{table, filled}
use Rattle.word.specs.Width.{width_ok}
use Rattle.address.specs.Check.{access_ok, access_of}
use Rattle.address.specs.Limits.{limits}
use Rattle.bar.specs.Bar.{size_ok, power_of_two}
use Rattle.bar.specs.Range.{multiple, lies_in, meets}
use Rattle.bar.specs.Register.{size_mask, candidate, committed, starts_probe, class_of}
use Rattle.bar.specs.State.{shown, asks}
use Rattle.capability.specs.Blank.{nothing_placed}
use Rattle.capability.specs.Declaration.{none_declared}
use Rattle.capability.specs.Layout.{answer_of, layout_of}
use Rattle.capability.specs.Offset.{next_multiple, offset_at}
use Rattle.capability.specs.Owner.{region_start, in_region, owner_of}
use Rattle.capability.specs.Touch.{allows, touch_of}
use Rattle.config.specs.Command.{watched, revision_after, exhausted}
use Rattle.config.specs.ConfigByte.{byte_check_of}
use Rattle.config.specs.Field.{under, image_of, fields_below}
use Rattle.config.specs.PowerOn.{power_on_of}
use Rattle.config.specs.Read.{register_bytes, read_good, read_of}
use Rattle.config.specs.Space.{space_of}
use Rattle.config.specs.State.{in_bar}
use Rattle.config.specs.Write.{store_of, bar_step, write_good, write_of}
use Rattle.placement.specs.Examples.{run_addresses}
use Rattle.placement.specs.Place.{meets_any, is_place}
use Rattle.declaration.specs.Answer.{first_refusal, checked_whole, declared_from, declared_by}
use Rattle.declaration.specs.Blank.{empty_contents, empty_function, nothing_so_far}
use Rattle.declaration.specs.Finished.{opened, none_finished, finished_with, finished_so_far}
use Rattle.declaration.specs.Frame.{frame_of}
use Rattle.declaration.specs.Reading.{read_field, read_fields}
use Rattle.declaration.specs.Standing.{device_used}
use Rattle.declaration.specs.Said.{said_of}
use Rattle.declaration.specs.Tag.{tag_of, length_allowed, body_long}
use Rattle.declaration.specs.Take.{taken_said}
use Rattle.declaration.specs.Whole.{fault_of}
use Rattle.declaration.proofs.ByteFiles.{all_bytes}
use Rattle.declaration.specs.declared.answer.DeclarationRefusal.{DeclarationRefusal}
use Rattle.bus.specs.Access.{bus_read_of, range_but, ranges_but, accepts, written_on, bus_write_of}
use Rattle.bus.specs.Bus.{no_function_state, index_in, range_on}
use Rattle.bus.specs.Outcome.{declaration_of}
use Rattle.bus.specs.declared.state.Bus.{Bus}
use Rattle.bus.specs.Start.{bars_placed, function_start, devices_of, functions_of, bus_of, bus_given}
use Rattle.bus.specs.Lookup.{holds_at, lookup_of}
use Rattle.bus.specs.Run.{run_file}
use Rattle.bus.proofs.RunCase.{run_started}
use Rattle.enumeration.specs.Enumerate.{asked, answers_byte, identity_read, after_slot, slot_read, after_slots, list_from, list_read, enumerate_of}
use Rattle.enumeration.specs.History.{after, ran}
use Rattle.enumeration.specs.Moved.{Moves, MovedCase}

-- all of it computes
computes : Moves (bus_of (declaration_of limits run_file) run_addresses)
unfolding declared_by declared_from first_refusal checked_whole read_fields read_field frame_of tag_of length_allowed body_long said_of taken_said number read_at device_used any_below all_below first_below first_of empty_function empty_contents nothing_so_far opened none_finished finished_with finished_so_far fault_of layout_of answer_of none_declared byte_check_of size_ok power_of_two table filled covers overlap blend stored width_ok bytes_of merge access_ok access_of multiple lies_in meets size_mask candidate committed starts_probe class_of shown asks region_start in_region owner_of allows touch_of next_multiple offset_at nothing_placed under image_of fields_below in_bar store_of bar_step write_good write_of watched revision_after exhausted power_on_of space_of register_bytes read_good read_of meets_any is_place bus_read_of range_but ranges_but accepts written_on bus_write_of no_function_state index_in range_on bars_placed function_start devices_of functions_of bus_of asked answers_byte identity_read after_slot slot_read after_slots list_from list_read enumerate_of after ran holds_at lookup_of
computes = record { answered = refl; reported = refl; first = refl; last = refl; gone = refl }

pub moved_case : MovedCase
unfolding all_below
moved_case = (
  record { bytes = all_bytes run_file refl; answer = ap is_ok run_started },
  subst (λ (s : Result Bus DeclarationRefusal). Moves (bus_given s)) (sym run_started) computes,
)
