-- The checks after the whole file (document 01: "for each device ascending: capabilities in order (12 before 13 for each), then config bytes (9)").
use Rattle.std.specs.Prelude.{ℕ, Bool, is_some, Option, Some, None, Result, Ok, Err}
use Rattle.refusal.specs.declared.refusal.Refusal.{Refusal}
use Rattle.refusal.specs.declared.refusal.Refusal.TheVariants as refusal
use Rattle.word.specs.Search.{first_below}
use Rattle.address.specs.Layout.{config_space_size}
use Rattle.capability.specs.Layout.{layout_of}
use Rattle.capability.specs.declared.placed.Placed.{Placed}
use Rattle.capability.specs.declared.layout.LayoutRefusal.{LayoutRefusal}
use Rattle.config.specs.ConfigByte.{byte_check_of}
use Rattle.config.specs.declared.config_byte.BadConfigByte.{BadConfigByte}
use Rattle.config.specs.declared.function.Function.{Function}
use Rattle.declaration.specs.Finished.{count_in, function_at}
use Rattle.declaration.specs.declared.finished.Finished.{Finished}
use Rattle.declaration.specs.declared.whole.Fault.{Fault}

-- a refusal and the index of the capability or config byte
abbrev pub fault : Refusal → ℕ → Fault
fault refusal index = record { refusal = refusal; index = index }

abbrev pub byte_fault : Result Unit BadConfigByte → Option Fault
byte_fault (Ok t) = None
byte_fault (Err b) = Some (fault refusal.BadConfigByte b.0)

abbrev pub layout_fault : Function → Result Placed LayoutRefusal → Option Fault
layout_fault f (Ok placed) = byte_fault (byte_check_of config_space_size f.contents placed)
layout_fault f (Err r) = Some (fault r.refusal r.index)

-- the first fault of a function
unfoldable pub fault_of : Function → Option Fault
fault_of f = layout_fault f (layout_of config_space_size f.capabilities)

-- whether the function at an index has one
abbrev pub faulty : Finished → ℕ → Bool
faulty f k = is_some (fault_of (function_at f k))

-- the first function that has, or the count
abbrev pub first_faulty : Finished → ℕ
first_faulty f = first_below (faulty f) (count_in f)
