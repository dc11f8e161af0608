-- The declared BARs of all functions, as one list by key: "by device then slot".
use Rattle.std.specs.Prelude.{ℕ, ◌*◌, ◌/◌, ◌%◌, min, Bool, cond, List, ltb, eqb, get_or, replicate}
use Rattle.word.specs.Table.{table}
use Rattle.word.specs.Search.{first_of}
use Rattle.address.specs.Layout.{bar_count}
use Rattle.address.specs.Limits.{function_room}
use Rattle.address.specs.Kinds.{index_of}
use Rattle.bar.specs.Bar.{no_bar}
use Rattle.bar.specs.declared.memory_bar.MemoryBar.{MemoryBar}
use Rattle.placement.specs.declared.declared_bars.FunctionBars.{FunctionBars}
use Rattle.placement.specs.declared.declared_bars.DeclaredBars.{DeclaredBars}

-- slot s of function f has the key f · 6 + s, so keys go by device, then slot
abbrev pub key_count : ℕ
key_count = function_room * bar_count

-- what stands past the last function
abbrev pub no_function : FunctionBars
no_function = record { device = 0; count = 0; bars = replicate bar_count no_bar }

-- a function's BARs are those below its count
abbrev pub bars_in : FunctionBars → ℕ
bars_in f = min f.count bar_count

-- whether a function's BAR i stands at a slot
abbrev pub stands_at : FunctionBars → ℕ → ℕ → Bool
stands_at f s i = eqb (index_of (get_or f.bars i no_bar).slot) s

-- the first BAR that a function declares at a slot (refusal 5 leaves no second one), or none
unfoldable pub slot_bar : FunctionBars → ℕ → MemoryBar
slot_bar f s = first_of (λ i. get_or f.bars i no_bar) no_bar (stands_at f s) (bars_in f)

-- the BAR at a key. Functions go by their place in the array, which a declaration keeps in device order
unfoldable pub declared_at : DeclaredBars → ℕ → MemoryBar
declared_at d key = cond (ltb (key / bar_count) d.count) (slot_bar (get_or d.functions (key / bar_count) no_function) (key % bar_count)) no_bar

unfoldable pub bars_of : DeclaredBars → List MemoryBar
bars_of d = table key_count (declared_at d)
