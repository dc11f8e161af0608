-- Each answer as a plain struct: what it is, document 01's number, and its values; what it does not tell is 0.
use Rattle.std.specs.Prelude.{ℕ, true, false, Option, None, Some, Result, Ok, Err}
use Rattle.refusal.specs.Number.{accepted, exhausted}
use Rattle.refusal.specs.Refusal.{number_of}
use Rattle.refusal.specs.declared.refusal.Refusal.{Refusal}
use Rattle.capability.specs.Blank.{no_placed_effect}
use Rattle.capability.specs.declared.effect_access.EffectHit.{EffectHit}
use Rattle.capability.specs.declared.placed.PlacedEffect.{PlacedEffect}
use Rattle.capability.specs.declared.snapshot.Snapshot.{Snapshot}
use Rattle.config.specs.declared.read_step.ReadAnswer.{ReadAnswer}
use Rattle.config.specs.declared.read_step.ReadAnswer.TheVariants as read
use Rattle.declaration.specs.declared.answer.DeclarationRefusal.{DeclarationRefusal}
use Rattle.declaration.specs.declared.answer.Place.{Place}
use Rattle.declaration.specs.declared.answer.Place.TheVariants as place
use Rattle.bus.specs.Access.{refusal_of}
use Rattle.bus.specs.declared.state.Bus.{Bus}
use Rattle.bus.specs.declared.write_access.BusWriteAnswer.{BusWriteAnswer}
use Rattle.bus.specs.declared.write_access.BusWriteAnswer.TheVariants as write
use Rattle.bus.specs.declared.write_access.WriteRefusal.{WriteRefusal}
use Rattle.bus.specs.declared.write_access.WriteRefusal.TheVariants as refused
use Rattle.bus.specs.declared.memory_lookup.Hit.{Hit}
use Rattle.bus.specs.declared.bus_reset.Exhausted.{Exhausted}
use Rattle.voussglen.specs.declared.results.ReadResult.{ReadResult}
use Rattle.voussglen.specs.declared.results.WriteResult.{WriteResult}
use Rattle.voussglen.specs.declared.results.LookupResult.{LookupResult}
use Rattle.voussglen.specs.declared.results.ResetResult.{ResetResult}
use Rattle.voussglen.specs.declared.results.StartResult.{StartResult}

-- what an answer is
abbrev pub kind_refused : ℕ
kind_refused = 0

abbrev pub kind_value : ℕ
kind_value = 1

abbrev pub kind_stored : ℕ
kind_stored = 2

abbrev pub kind_dropped : ℕ
kind_dropped = 3

abbrev pub kind_probing : ℕ
kind_probing = 4

abbrev pub kind_moved : ℕ
kind_moved = 5

abbrev pub kind_kept : ℕ
kind_kept = 6

abbrev pub kind_effect : ℕ
kind_effect = 7

abbrev pub kind_hit : ℕ
kind_hit = 8

abbrev pub kind_miss : ℕ
kind_miss = 9

-- "capability id, region, offset from the capability's start", and "the offset from the region's own start"
abbrev pub effect_told : ℕ → PlacedEffect → ℕ → ℕ → EffectHit
effect_told id region offset region_offset = record { capability_id = id; region = region; offset = offset; region_offset = region_offset }

-- where no effect is told
abbrev pub no_effect : EffectHit
no_effect = effect_told 0 no_placed_effect 0 0

abbrev pub read_plain : ℕ → ℕ → ℕ → ReadResult
read_plain kind refusal value = record { kind = kind; refusal = refusal; value = value; effect = no_effect }

abbrev pub read_result : Result ReadAnswer Refusal → ReadResult
read_result (Ok (read.Value v)) = read_plain kind_value accepted v
read_result (Ok (read.Effect hit body)) = record { kind = kind_effect; refusal = accepted; value = 0; effect = hit }
read_result (Err r) = read_plain kind_refused (number_of r) 0

abbrev pub write_plain : ℕ → ℕ → ℕ → ℕ → ℕ → WriteResult
write_plain kind refusal device slot address = record { kind = kind; refusal = refusal; device = device; slot = slot; address = address; effect = no_effect }

abbrev pub did_result : BusWriteAnswer → WriteResult
did_result write.Stored = write_plain kind_stored accepted 0 0 0
did_result write.Dropped = write_plain kind_dropped accepted 0 0 0
did_result (write.Probing slot) = write_plain kind_probing accepted 0 slot 0
did_result (write.Moved slot address) = write_plain kind_moved accepted 0 slot address
did_result (write.Kept slot address) = write_plain kind_kept accepted 0 slot address
did_result (write.Effect hit body) = record { kind = kind_effect; refusal = accepted; device = 0; slot = 0; address = 0; effect = hit }

-- the device that a refusal tells
abbrev pub device_told : WriteRefusal → ℕ
device_told refused.BadAccess = 0
device_told refused.BadTouch = 0
device_told (refused.Exhausted device) = device

abbrev pub write_result : Result BusWriteAnswer WriteRefusal → WriteResult
write_result (Ok a) = did_result a
write_result (Err r) = write_plain kind_refused (number_of (refusal_of r)) (device_told r) 0 0

-- the buffer for a body: that of an effect, else what it held
abbrev pub read_body : Snapshot → Result ReadAnswer Refusal → Snapshot
read_body held (Ok (read.Value v)) = held
read_body held (Ok (read.Effect hit body)) = body
read_body held (Err r) = held

abbrev pub write_body : Snapshot → Result BusWriteAnswer WriteRefusal → Snapshot
write_body held (Ok (write.Effect hit body)) = body
write_body held a = held

abbrev pub lookup_result : Result (Option Hit) Refusal → LookupResult
lookup_result (Ok (Some h)) = record { kind = kind_hit; refusal = accepted; device = h.device; slot = h.slot; offset = h.offset }
lookup_result (Ok None) = record { kind = kind_miss; refusal = accepted; device = 0; slot = 0; offset = 0 }
lookup_result (Err r) = record { kind = kind_refused; refusal = number_of r; device = 0; slot = 0; offset = 0 }

abbrev pub reset_result : Result Unit Exhausted → ResetResult
reset_result (Ok t) = record { refusal = accepted; device = 0 }
reset_result (Err e) = record { refusal = exhausted; device = e.0 }

-- a refusal's place: an offset of the file, or a device and an index
abbrev pub place_result : ℕ → Place → StartResult
place_result number (place.Offset offset) = record { refusal = number; in_file = true; device = 0; offset = offset; index = 0 }
place_result number (place.Index device index) = record { refusal = number; in_file = false; device = device; offset = 0; index = index }

abbrev pub start_result : Result Bus DeclarationRefusal → StartResult
start_result (Ok b) = record { refusal = accepted; in_file = false; device = 0; offset = 0; index = 0 }
start_result (Err e) = place_result (number_of e.refusal) e.place
