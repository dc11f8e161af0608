-- The Run case: the file is read, its BARs are those of placement's example, and the bus has them there.
use mathlib.Core.Bool.{true}
use mathlib.Core.List.{◌∷◌}
use mathlib.Core.Path.{◌≡◌, refl}
use lib.ListN.{replicate}
use Rattle.word.specs.Number.{number, read_at}
use Rattle.word.specs.Search.{any_below, all_below, first_below, first_of}
use Rattle.word.specs.Table.{table, filled}
use Rattle.address.specs.Limits.{limits}
use Rattle.bar.specs.Bar.{size_ok, power_of_two}
use Rattle.capability.specs.Declaration.{none_declared}
use Rattle.capability.specs.Layout.{answer_of, layout_of}
use Rattle.config.specs.ConfigByte.{byte_check_of}
use Rattle.std.specs.Prelude.{Ok, is_ok}
use Rattle.placement.specs.Examples as example
use Rattle.placement.specs.Keys.{slot_bar, declared_at, bars_of}
use Rattle.placement.proofs.Examples.{run}
use Rattle.placement.proofs.SameBars.{same_bars}
use Rattle.declaration.specs.Answer.{first_refusal, checked_whole, declared_from, declared_by}
use Rattle.declaration.specs.Blank.{empty_contents, empty_function, nothing_so_far}
use Rattle.declaration.specs.Finished.{opened, none_finished, finished_with, finished_so_far}
use Rattle.declaration.specs.Frame.{frame_of}
use Rattle.declaration.specs.Reading.{read_field, read_fields}
use Rattle.declaration.specs.Standing.{device_used}
use Rattle.declaration.specs.Said.{said_of}
use Rattle.declaration.specs.Tag.{tag_of, length_allowed, body_long}
use Rattle.declaration.specs.Take.{taken_said}
use Rattle.declaration.specs.Whole.{fault_of}
use Rattle.declaration.specs.declared.answer.Declaration.{Declaration}
use Rattle.declaration.proofs.Answered.{ok_given}
use Rattle.bus.specs.Bus.{range_on, ranges_on}
use Rattle.bus.specs.Outcome.{declaration_of}
use Rattle.bus.specs.Run.{run_file, run_ranges, RunCase}
use Rattle.bus.specs.Start.{declared_bars, bars_placed, function_start, devices_of, functions_of, bus_of, placement_in, start_declared, start_of}

abbrev declaration : Declaration
declaration = declaration_of limits run_file

-- what the file says
record Said : Type 0 where
  answer : is_ok (declared_by limits run_file) ≡ true
  aperture : declaration.aperture ≡ example.run_aperture
  count : declaration.count ≡ 2
  devices : devices_of declaration ≡ 3 ∷ 5 ∷ replicate 6 0
  bars : bars_of (declared_bars declaration) ≡ bars_of example.run_bars
  ranges : ranges_on (bus_of declaration example.run_addresses) ≡ run_ranges

said : Said
unfolding declared_by declared_from first_refusal checked_whole read_fields read_field frame_of tag_of length_allowed body_long said_of taken_said number read_at device_used any_below all_below first_below first_of empty_function empty_contents nothing_so_far opened none_finished finished_with finished_so_far fault_of layout_of answer_of none_declared byte_check_of size_ok power_of_two table filled devices_of declared_bars bars_of declared_at slot_bar range_on ranges_on bus_of functions_of function_start bars_placed
said = record { answer = refl; aperture = refl; count = refl; devices = refl; bars = refl; ranges = refl }

placed : placement_in declaration ≡ Ok example.run_addresses
placed = rw said.aperture (same_bars example.run_aperture (declared_bars declaration) example.run_bars example.run_addresses said.bars run)

-- so the bus is that of its declaration, with those addresses
pub run_started : start_of limits run_file ≡ Ok (bus_of declaration example.run_addresses)
unfolding start_of start_declared
run_started = rw (ok_given (declared_by limits run_file) said.answer, placed)

pub run_case : RunCase
unfolding bus_of
run_case = (refl, rw run_started (record { accepted = refl; aperture = said.aperture; count = said.count; devices = said.devices; ranges = said.ranges }))
