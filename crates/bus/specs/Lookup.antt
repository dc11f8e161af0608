-- Memory lookup (document 01: "Memory lookup answers device, slot and offset exactly if the whole access lies in a BAR of a function with command bit 1 set; otherwise a miss").
use Rattle.std.specs.Prelude.{ℕ, ◌+◌, ◌-◌, ◌/◌, ◌%◌, Bool, ◌&&◌, cond, leb, eqb, List, Option, Some, None, Result, Ok, Err}
use Rattle.refusal.specs.declared.refusal.Refusal.{Refusal}
use Rattle.refusal.specs.declared.refusal.Refusal.TheVariants.{BadAccess}
use Rattle.word.specs.Search.{first_of}
use Rattle.word.specs.Table.{table}
use Rattle.word.specs.Width.{width_ok}
use Rattle.address.specs.Layout.{bar_count}
use Rattle.address.specs.Limits.{function_room}
use Rattle.bar.specs.Range.{end_of}
use Rattle.bar.specs.declared.range.Range.{Range}
use Rattle.config.specs.Command.{command_bit}
use Rattle.config.specs.declared.state.FunctionState.{FunctionState}
use Rattle.placement.specs.Keys.{key_count}
use Rattle.bus.specs.Bus.{device_at, function_at, range_on}
use Rattle.bus.specs.declared.state.Bus.{Bus}
use Rattle.bus.specs.declared.memory_lookup.Hit.{Hit}

-- "width not 1, 2, 4, 8"
abbrev pub most_lookup : ℕ
most_lookup = 8

-- "a function with command bit 1 set"
abbrev pub decodes : FunctionState → Bool
decodes f = eqb (command_bit f.live 1) 1

-- which functions do
unfoldable pub decoding_on : Bus → List Bool
decoding_on b = table function_room (λ k. decodes (function_at b k))

-- "the whole access lies in": sums are of natural numbers, so an access past 2^64 lies in none
abbrev pub lies_within : Range → ℕ → ℕ → Bool
lies_within r address width = leb r.start address && leb (address + width) (end_of r)

-- whether the BAR at a key holds the access
unfoldable pub holds_at : Bus → ℕ → ℕ → ℕ → Bool
holds_at b address width key = decodes (function_at b (key / bar_count)) && lies_within (range_on b key) address width

-- a hit, with device, slot and offset
abbrev pub hit_of : ℕ → ℕ → ℕ → Option Hit
hit_of device slot offset = Some (record { device = device; slot = slot; offset = offset })

abbrev pub hit_at : Bus → ℕ → ℕ → Option Hit
hit_at b address key = hit_of (device_at b (key / bar_count)) (key % bar_count) (address - (range_on b key).start)

-- the first that holds it (on a bus from an accepted file the only one)
unfoldable pub lookup_of : Bus → ℕ → ℕ → Result (Option Hit) Refusal
lookup_of b address width = cond (width_ok most_lookup width) (Ok (first_of (hit_at b address) None (holds_at b address width) key_count)) (Err BadAccess)
