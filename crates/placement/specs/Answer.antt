-- The answer of placement: every BAR's address, or the refusal with device and slot.
use Rattle.std.specs.Prelude.{ℕ, ◌/◌, ◌%◌, List, get_or, replicate, Result, Ok, Err}
use Rattle.refusal.specs.Number.{accepted}
use Rattle.refusal.specs.Refusal.{number_of}
use Rattle.refusal.specs.declared.refusal.Refusal.{Refusal}
use Rattle.word.specs.Table.{table}
use Rattle.address.specs.Layout.{bar_count}
use Rattle.bar.specs.declared.range.Range.{Range}
use Rattle.bar.specs.declared.range.Aperture.{Aperture}
use Rattle.placement.specs.Place.{no_range}
use Rattle.placement.specs.Keys.{key_count, no_function, bars_of}
use Rattle.placement.specs.Passes.{Placing, placing_of}
use Rattle.placement.specs.declared.declared_bars.DeclaredBars.{DeclaredBars}
use Rattle.placement.specs.declared.answer.PlacementRefusal.{PlacementRefusal}

abbrev pub Placement : Type 0
Placement = Result (List ℕ) PlacementRefusal

-- the start of each key's range; 0 where there is no BAR
unfoldable pub addresses_of : List Range → List ℕ
addresses_of placed = table key_count (λ key. (get_or placed key no_range).start)

-- the device of a function
abbrev pub device_of : DeclaredBars → ℕ → ℕ
device_of d f = (get_or d.functions f no_function).device

abbrev pub refused_by : Refusal → ℕ → ℕ → PlacementRefusal
refused_by refusal device slot = record { refusal = refusal; device = device; slot = slot }

-- a refusal names the device and the slot of its key
abbrev pub refused_at : DeclaredBars → Refusal → ℕ → PlacementRefusal
refused_at d refusal key = refused_by refusal (device_of d (key / bar_count)) (key % bar_count)

abbrev pub answered : DeclaredBars → Placing → Placement
answered d (Ok placed) = Ok (addresses_of placed)
answered d (Err e) = Err (refused_at d e.refusal e.key)

unfoldable pub placement_of : Aperture → DeclaredBars → Placement
placement_of aperture d = answered d (placing_of aperture (bars_of d))

-- document 01's number of an answer
abbrev pub placement_number : Placement → ℕ
placement_number (Ok addresses) = accepted
placement_number (Err e) = number_of e.refusal

-- the addresses that an answer gives: all 0 where it is refused
abbrev pub addresses_given : Placement → List ℕ
addresses_given (Ok addresses) = addresses
addresses_given (Err e) = replicate key_count 0
