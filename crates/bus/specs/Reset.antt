-- Reset of the whole bus (document 01: "Reset restores every function's live image and BARs, ends probing, then adds 1 to each revision. One already at its largest stays; the answer is 20 with the lowest such device, everything else done").
use Rattle.std.specs.Prelude.{ℕ, Bool, cond, List, ltb, eqb, length, get_or, Result, Ok, Err}
use Rattle.word.specs.Search.{first_of}
use Rattle.word.specs.Table.{table}
use Rattle.config.specs.Command.{largest_revision}
use Rattle.config.specs.Reset.{restored}
use Rattle.config.specs.declared.state.FunctionState.{FunctionState}
use Rattle.bus.specs.Bus.{no_function_state, count_on, device_at, function_at}
use Rattle.bus.specs.declared.state.Bus.{Bus}
use Rattle.bus.specs.declared.bus_reset.Exhausted.{Exhausted}
use Rattle.bus.specs.declared.bus_reset.BusResetDone.{BusResetDone}

-- whether a function's revision is at its largest
abbrev pub spent_at : Bus → ℕ → Bool
spent_at b k = eqb (function_at b k).revision largest_revision

-- the functions after the first n were restored
unfoldable pub reset_first : List FunctionState → ℕ → List FunctionState
reset_first functions n = table (length functions) (λ k. cond (ltb k n) (restored (get_or functions k no_function_state)) (get_or functions k no_function_state))

-- "20 with the lowest such device"
abbrev pub exhausted_by : ℕ → Result Unit Exhausted
exhausted_by device = Err (record { 0 = device })

abbrev pub reset_answer : Bus → Result Unit Exhausted
reset_answer b = first_of (λ k. exhausted_by (device_at b k)) (Ok tt) (spent_at b) (count_on b)

unfoldable pub bus_reset_of : Bus → BusResetDone
bus_reset_of b =
    record { answer = reset_answer b; bus = record { aperture = b.aperture; devices = b.devices; functions = reset_first b.functions (count_on b); count = b.count } }
