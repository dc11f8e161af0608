-- A bus from the bytes of a file (document 01): the declaration's answer, then placement, then power-on images.
use Rattle.std.specs.Prelude.{ℕ, List, get_or, Result, Ok, Err}
use Rattle.refusal.specs.declared.refusal.Refusal.{Refusal}
use Rattle.word.specs.Table.{table, filled}
use Rattle.address.specs.Layout.{config_space_size, bar_count}
use Rattle.address.specs.Limits.{Limits, function_room}
use Rattle.address.specs.Kinds.{slot}
use Rattle.bar.specs.Bar.{no_bar}
use Rattle.bar.specs.State.{fresh}
use Rattle.bar.specs.declared.bar_state.Plan.{Plan}
use Rattle.bar.specs.declared.bar_state.BarState.{BarState}
use Rattle.capability.specs.Layout.{layout_of, placed_or_nothing}
use Rattle.capability.specs.declared.placed.Placed.{Placed}
use Rattle.config.specs.PowerOn.{power_on_of}
use Rattle.config.specs.Start.{power_on_state}
use Rattle.config.specs.declared.function.Function.{Function}
use Rattle.config.specs.declared.state.FunctionState.{FunctionState}
use Rattle.placement.specs.Answer.{Placement, placement_of, addresses_given}
use Rattle.placement.specs.declared.declared_bars.FunctionBars.{FunctionBars}
use Rattle.placement.specs.declared.declared_bars.DeclaredBars.{DeclaredBars}
use Rattle.declaration.specs.Blank.{no_function}
use Rattle.declaration.specs.Answer.{refused_at, declared_by}
use Rattle.declaration.specs.declared.answer.Declaration.{Declaration}
use Rattle.declaration.specs.declared.answer.DeclarationRefusal.{DeclarationRefusal}
use Rattle.declaration.specs.declared.answer.Place.{Place}
use Rattle.declaration.specs.declared.answer.Place.TheVariants as place
use Rattle.bus.specs.Bus.{no_function_state, empty_bus, key_of}
use Rattle.bus.specs.declared.state.Bus.{Bus}

abbrev pub declared_function : Declaration → ℕ → Function
declared_function d k = get_or d.functions k no_function

-- the declared BARs, as placement takes them
abbrev pub function_bars : Function → FunctionBars
function_bars f = record { device = f.device; count = bar_count; bars = f.bars }

unfoldable pub declared_bars : Declaration → DeclaredBars
declared_bars d = record { count = d.count; functions = table function_room (λ k. function_bars (declared_function d k)) }

-- a function at power-on: each BAR as it was placed, the capabilities as they are laid out
abbrev pub plan_at : Function → List ℕ → ℕ → ℕ → Plan
plan_at f addresses k i = record { slot = slot i; size = (get_or f.bars i no_bar).size; address = get_or addresses (key_of k i) 0 }

unfoldable pub bars_placed : Function → List ℕ → ℕ → List BarState
bars_placed f addresses k = table bar_count (λ i. fresh (plan_at f addresses k i))

abbrev pub placed_in : Function → Placed
placed_in f = placed_or_nothing (layout_of config_space_size f.capabilities)

unfoldable pub function_start : Function → List ℕ → ℕ → FunctionState
function_start f addresses k =
    power_on_state (power_on_of config_space_size f.contents (bars_placed f addresses k) (placed_in f)) (bars_placed f addresses k) (placed_in f)

-- the devices in order, and nothing past the last
unfoldable pub devices_of : Declaration → List ℕ
devices_of d = filled function_room d.count (λ k. (declared_function d k).device) 0

-- the functions at power-on, and blanks past the last
unfoldable pub functions_of : Declaration → List ℕ → List FunctionState
functions_of d addresses = filled function_room d.count (λ k. function_start (declared_function d k) addresses k) no_function_state

-- the bus of a declaration whose BARs have these addresses
unfoldable pub bus_of : Declaration → List ℕ → Bus
bus_of d addresses = record { aperture = d.aperture; devices = devices_of d; functions = functions_of d addresses; count = d.count }

-- a refusal with its place
abbrev pub refused_start : Refusal → Place → Result Bus DeclarationRefusal
refused_start refusal p = Err (refused_at refusal p)

-- "Refusals 1 to 17 leave a bus with no functions and no aperture."
abbrev pub bus_given : Result Bus DeclarationRefusal → Bus
bus_given (Ok b) = b
bus_given (Err e) = empty_bus

-- "Then placement, 14 to 17", with device and slot
abbrev pub placed_start : Declaration → Placement → Result Bus DeclarationRefusal
placed_start d (Ok addresses) = Ok (bus_of d addresses)
placed_start d (Err e) = refused_start e.refusal (place.Index e.device e.slot)

-- where placement puts the BARs of a declaration
abbrev pub placement_in : Declaration → Placement
placement_in d = placement_of d.aperture (declared_bars d)

-- and the addresses that it gives them
abbrev pub addresses_in : Declaration → List ℕ
addresses_in d = addresses_given (placement_in d)

unfoldable pub start_declared : Declaration → Result Bus DeclarationRefusal
start_declared d = placed_start d (placement_in d)

abbrev pub start_answered : Result Declaration DeclarationRefusal → Result Bus DeclarationRefusal
start_answered (Ok d) = start_declared d
start_answered (Err e) = Err e

unfoldable pub start_of : Limits → List ℕ → Result Bus DeclarationRefusal
start_of l file = start_answered (declared_by l file)
