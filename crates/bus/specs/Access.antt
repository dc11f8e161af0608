-- Reads and writes by device (document 01, "Access and reset").
use Rattle.std.specs.Prelude.{ℕ, ◌-◌, ◌^◌, Bool, true, false, cond, List, eqb, Some, None, Result, Ok, Err}
use Rattle.refusal.specs.Number.{accepted}
use Rattle.refusal.specs.Refusal.{number_of}
use Rattle.refusal.specs.declared.refusal.Refusal.TheVariants as refusal
use Rattle.word.specs.Table.{table}
use Rattle.address.specs.Layout.{config_space_size}
use Rattle.address.specs.Check.{access_of}
use Rattle.address.specs.declared.access.Access.{Access}
use Rattle.bar.specs.declared.range.Range.{Range}
use Rattle.placement.specs.Keys.{key_count}
use Rattle.placement.specs.Place.{no_range, is_place}
use Rattle.config.specs.Read.{read_of}
use Rattle.config.specs.Write.{write_of, relocated_in}
use Rattle.config.specs.declared.read_step.ReadAnswer.TheVariants as read_answer
use Rattle.config.specs.declared.read_step.ReadAnswer.{ReadAnswer}
use Rattle.config.specs.declared.write_step.WriteAnswer.{WriteAnswer}
use Rattle.config.specs.declared.write_step.WriteAnswer.TheVariants as write_answer
use Rattle.config.specs.declared.state.FunctionState.{FunctionState}
use Rattle.bus.specs.Bus.{device_at, function_at, index_on, declared_on, with_function, key_of, bar_in, range_on}
use Rattle.bus.specs.declared.state.Bus.{Bus}
use Rattle.bus.specs.declared.write_access.BusWriteAnswer.{BusWriteAnswer}
use Rattle.bus.specs.declared.write_access.BusWriteAnswer.TheVariants.{Stored, Dropped, Probing, Moved, Kept, Effect}
use Rattle.bus.specs.declared.write_access.WriteRefusal.{WriteRefusal}
use Rattle.bus.specs.declared.write_access.WriteRefusal.TheVariants.{BadAccess, BadTouch, Exhausted}
use Rattle.bus.specs.declared.write_access.BusWriteDone.{BusWriteDone}
use Rattle.bus.specs.declared.write_access.Written.{Written}
use Rattle.refusal.specs.declared.refusal.Refusal.{Refusal}

-- "Check 18 first. An undeclared device, or a number above 31, reads all ones of the width"
abbrev pub absent_read : Result Access Refusal → Result ReadAnswer Refusal
absent_read (Err r) = Err r
absent_read (Ok a) = Ok (read_answer.Value (256 ^ a.width - 1))

unfoldable pub bus_read_of : Bus → ℕ → ℕ → ℕ → Result ReadAnswer Refusal
bus_read_of b device o w = cond (declared_on b device) (read_of (function_at b (index_on b device)) o w) (absent_read (access_of config_space_size o w))

-- the committed ranges of every other BAR on the bus, "whether decoding or not"; the empty one for the BAR itself
unfoldable pub range_but : Bus → ℕ → ℕ → Range
range_but b key other = cond (eqb other key) no_range (range_on b other)

unfoldable pub ranges_but : Bus → ℕ → List Range
ranges_but b key = table key_count (range_but b key)

-- "It is accepted exactly if it is a multiple of size, its range lies in the aperture, and it meets no other BAR's committed range on the bus": if it is a place, given the others
unfoldable pub accepts : Bus → ℕ → ℕ → ℕ → Bool
accepts b k i a = is_place b.aperture (bar_in b k i).plan.size (ranges_but b (key_of k i)) a

-- "18, 19", or "20 on a write"
abbrev pub refusal_of : WriteRefusal → Refusal
refusal_of BadAccess = refusal.BadAccess
refusal_of BadTouch = refusal.BadTouch
refusal_of (Exhausted device) = refusal.RevisionExhausted

-- document 01's number for each answer
abbrev pub bus_write_number : Result BusWriteAnswer WriteRefusal → ℕ
bus_write_number (Ok a) = accepted
bus_write_number (Err r) = number_of (refusal_of r)

-- whether an answer is one of a write that changes a function
abbrev pub changes : Result BusWriteAnswer WriteRefusal → Bool
changes (Ok Stored) = true
changes (Ok Dropped) = false
changes (Ok (Probing slot)) = true
changes (Ok (Moved slot address)) = true
changes (Ok (Kept slot address)) = true
changes (Ok (Effect hit body)) = false
changes (Err r) = false

abbrev pub bus_done : Result BusWriteAnswer WriteRefusal → Bus → BusWriteDone
bus_done a b = record { answer = a; bus = b }

-- what a write to one function comes to, and that put on the bus
abbrev pub written_as : Result BusWriteAnswer WriteRefusal → FunctionState → Written
written_as a f = record { answer = a; function = f }

abbrev pub put_on : Bus → ℕ → Written → BusWriteDone
put_on b k r = record { answer = r.answer; bus = with_function b k r.function }

-- why a function's write is refused, with the device where it is 20
abbrev pub refused_at : ℕ → Refusal → WriteRefusal
refused_at device refusal.RevisionExhausted = Exhausted device
refused_at device refusal.BadTouch = BadTouch
refused_at device r = BadAccess

-- "If not accepted, the address stays. The answer says which."
abbrev pub settled_on : Bus → ℕ → ℕ → ℕ → BusWriteDone
settled_on b k i a =
    cond (accepts b k i a) (bus_done (Ok (Moved i a)) (with_function b k (relocated_in (function_at b k) i (Some a))))
    (bus_done (Ok (Kept i (bar_in b k i).address)) (with_function b k (relocated_in (function_at b k) i None)))

-- what the function's step says, on the bus
abbrev pub stepped_on : Bus → ℕ → FunctionState → Result WriteAnswer Refusal → BusWriteDone
stepped_on b k f (Ok write_answer.Stored) = bus_done (Ok Stored) (with_function b k f)
stepped_on b k f (Ok (write_answer.Probing i)) = bus_done (Ok (Probing i)) (with_function b k f)
stepped_on b k f (Ok (write_answer.Candidate i a)) = settled_on b k i a
stepped_on b k f (Ok (write_answer.Effect hit body)) = bus_done (Ok (Effect hit body)) b
stepped_on b k f (Err r) = bus_done (Err (refused_at (device_at b k) r)) b

-- "writes are dropped", 18 first
abbrev pub absent_write : Bus → Result Access Refusal → BusWriteDone
absent_write b (Err r) = bus_done (Err BadAccess) b
absent_write b (Ok a) = bus_done (Ok Dropped) b

unfoldable pub written_on : Bus → ℕ → ℕ → ℕ → ℕ → BusWriteDone
written_on b k o w v =
    stepped_on b k (write_of (function_at b k) o w v).state (write_of (function_at b k) o w v).answer

unfoldable pub bus_write_of : Bus → ℕ → ℕ → ℕ → ℕ → BusWriteDone
bus_write_of b device o w v = cond (declared_on b device) (written_on b (index_on b device) o w v) (absent_write b (access_of config_space_size o w))
