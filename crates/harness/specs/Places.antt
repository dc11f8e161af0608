-- Placement in numbers: the BARs that they declare, and what is answered.
use Rattle.std.specs.Prelude.{ℕ, ◌+◌, ◌*◌, Bool, false, cond, List, get_or, Ok, Err, Result}
use Rattle.word.specs.Table.{table}
use Rattle.address.specs.Layout.{bar_count}
use Rattle.address.specs.Kinds.{slot}
use Rattle.bar.specs.Bar.{bar_of, no_bar}
use Rattle.bar.specs.declared.memory_bar.Request.{Request}
use Rattle.bar.specs.declared.memory_bar.Request.TheVariants.{Auto, Fixed}
use Rattle.bar.specs.declared.memory_bar.MemoryBar.{MemoryBar}
use Rattle.address.specs.Limits.{function_room}
use Rattle.refusal.specs.Number.{accepted}
use Rattle.refusal.specs.Refusal.{number_of}
use Rattle.placement.specs.Answer.{Placement, placement_of, addresses_given}
use Rattle.placement.specs.declared.declared_bars.FunctionBars.{FunctionBars}
use Rattle.placement.specs.declared.declared_bars.DeclaredBars.{DeclaredBars}
use Rattle.harness.specs.declared.places.PlaceNumbers.{PlaceNumbers}
use Rattle.harness.specs.declared.places.PlacedOut.{PlacedOut}
use Rattle.refusal.specs.declared.refusal.Refusal.{Refusal}

-- "a BAR's request is automatic or a fixed address"
abbrev pub request_of : Bool → ℕ → Request
request_of fixed address = cond fixed (Fixed address) Auto

-- a size that refusal 7 is given for, 0 among them, is no BAR
abbrev pub bar_or : Result MemoryBar Refusal → MemoryBar
bar_or (Ok b) = b
bar_or (Err r) = no_bar

-- place i · 6 + s of the arrays is slot s of function i
unfoldable pub bar_in : PlaceNumbers → ℕ → ℕ → MemoryBar
bar_in n i s =
    bar_or (bar_of (slot s) (get_or n.sizes (i * bar_count + s) 0) (request_of (get_or n.fixed (i * bar_count + s) false) (get_or n.addresses (i * bar_count + s) 0)))

-- the BARs of function i, slot by slot
unfoldable pub slots_in : PlaceNumbers → ℕ → List MemoryBar
slots_in n i = table bar_count (bar_in n i)

-- the BARs of function i, with its device
abbrev pub function_in : PlaceNumbers → ℕ → FunctionBars
function_in n i = record { device = get_or n.devices i 0; count = bar_count; bars = slots_in n i }

-- all functions, also those past the count
unfoldable pub functions_in : PlaceNumbers → List FunctionBars
functions_in n = table function_room (function_in n)

-- the declaration that the numbers say
abbrev pub declared_bars : PlaceNumbers → DeclaredBars
declared_bars n = record { count = n.count; functions = functions_in n }

-- what is told of a placement: document 01's number, the device and slot that it is given for, 0 where nothing is refused, and the address of each key, 0 where it is refused
abbrev pub placed_out : Placement → PlacedOut
placed_out (Ok addresses) = record { refusal = accepted; device = 0; slot = 0; addresses = addresses }
placed_out (Err e) = record { refusal = number_of e.refusal; device = e.device; slot = e.slot; addresses = addresses_given (Err e) }

-- the placement of what the numbers declare
unfoldable pub place_of : PlaceNumbers → PlacedOut
place_of n = placed_out (placement_of (record { start = n.start; end = n.end }) (declared_bars n))
