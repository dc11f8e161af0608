-- A bus: an aperture and functions in device order.
use Rattle.std.specs.Prelude.{ℕ, ◌*◌, ◌+◌, ◌/◌, ◌%◌, min, Bool, cond, Option, None, Some, List, ltb, eqb, get_or, set, replicate}
use Rattle.word.specs.Search.{first_below, first_of}
use Rattle.word.specs.Table.{table}
use Rattle.address.specs.Layout.{config_space_size, bar_count}
use Rattle.address.specs.Limits.{function_room}
use Rattle.bar.specs.State.{no_state, range_of}
use Rattle.bar.specs.declared.range.Range.{Range}
use Rattle.bar.specs.declared.bar_state.BarState.{BarState}
use Rattle.capability.specs.Blank.{nothing_placed}
use Rattle.config.specs.State.{bar_at}
use Rattle.config.specs.declared.state.FunctionState.{FunctionState}
use Rattle.placement.specs.Keys.{key_count}
use Rattle.placement.specs.Place.{no_range}
use Rattle.bus.specs.declared.state.Bus.{Bus}

-- what stands past the last function
unfoldable pub no_function_state : FunctionState
no_function_state =
    record { live = replicate config_space_size 0; power_on = replicate config_space_size 0; mask = replicate config_space_size 0; bars = replicate bar_count no_state; placed = nothing_placed; revision = 0 }

-- "a bus with no functions and no aperture"
unfoldable pub empty_bus : Bus
empty_bus = record { aperture = record { start = 0; end = 0 }; devices = replicate function_room 0; functions = replicate function_room no_function_state; count = 0 }

-- how many functions there are: no count reaches past its array
abbrev pub count_on : Bus → ℕ
count_on b = min b.count function_room

abbrev pub device_at : Bus → ℕ → ℕ
device_at b k = get_or b.devices k 0

abbrev pub function_at : Bus → ℕ → FunctionState
function_at b k = get_or b.functions k no_function_state

-- the index of a device among the first n of a list; n where it is none of them
unfoldable pub index_in : List ℕ → ℕ → ℕ → ℕ
index_in devices n device = first_below (λ k. eqb (get_or devices k 0) device) n

-- the same where it is one of them
unfoldable pub index_found : List ℕ → ℕ → ℕ → Option ℕ
index_found devices n device = first_of Some None (λ k. eqb (get_or devices k 0) device) n

-- the function of a device, by its index; the count where the device is not declared
abbrev pub index_on : Bus → ℕ → ℕ
index_on b device = index_in b.devices (count_on b) device

abbrev pub declared_on : Bus → ℕ → Bool
declared_on b device = ltb (index_on b device) (count_on b)

-- the bus with one function changed
abbrev pub with_function : Bus → ℕ → FunctionState → Bus
with_function b k f = record { aperture = b.aperture; devices = b.devices; functions = set b.functions k f; count = b.count }

-- the BAR in slot i of function k
abbrev pub bar_in : Bus → ℕ → ℕ → BarState
bar_in b k i = bar_at (function_at b k).bars i

-- the key of that slot, function · 6 + slot
abbrev pub key_of : ℕ → ℕ → ℕ
key_of k i = k * bar_count + i

-- the BAR at a key
abbrev pub bar_on : Bus → ℕ → BarState
bar_on b key = bar_in b (key / bar_count) (key % bar_count)

-- its committed range; the empty one where there is no such function
unfoldable pub range_on : Bus → ℕ → Range
range_on b key = cond (ltb (key / bar_count) (count_on b)) (range_of (bar_on b key)) no_range

-- those at all keys
unfoldable pub ranges_on : Bus → List Range
ranges_on b = table key_count (range_on b)
