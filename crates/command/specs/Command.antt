-- What a line asks (the console's table of commands: "words are parted by single spaces").
use Rattle.std.specs.Prelude.{ℕ, ◌+◌, ◌-◌, Bool, false, cond, List, eqb, length, get_or, Option, Some, None, option_and_then, option_map, unwrap_or}
use Rattle.word.specs.Search.{first_below}
use Rattle.word.specs.Number.{part_of}
use Rattle.command.specs.Numeral.{numeral_of}
use Rattle.command.specs.declared.line.Argument.{Argument}
use Rattle.command.specs.declared.line.Command.{Command}
use Rattle.command.specs.declared.line.Command.TheVariants.{Read, Write, Lookup, Reset, Enumerate, Revision, Dump, Unknown}

-- a blank in ASCII
abbrev pub space : ℕ
space = 32

-- how long the word from a place on is: up to the next blank, or the end of the line
unfoldable pub word_length : List ℕ → ℕ → ℕ
word_length line at = first_below (λ k. eqb (get_or line (at + k) 0) space) (length line - at)

abbrev pub word_at : List ℕ → ℕ → List ℕ
word_at line at = part_of line at (word_length line at)

-- where the first argument begins: the line goes on after its letter
abbrev pub after_letter : ℕ
after_letter = 1

abbrev pub argument_by : Option ℕ → ℕ → Option Argument
argument_by (Some value) next = Some (record { value = value; next = next })
argument_by None next = None

-- the argument from a place on: a blank and a number
unfoldable pub argument_at : List ℕ → ℕ → ℕ → Option Argument
argument_at line at base =
    cond (eqb (get_or line at 0) space)
    (argument_by (numeral_of base (word_at line (at + 1))) (at + 1 + word_length line (at + 1)))
    None

-- "DEV, OFF, ADDR and VALUE" in hex, "widths .. decimal"; what is asked of an argument, none where there is none
abbrev pub with_hex : {A : Type 0} → List ℕ → ℕ → (Argument → Option A) → Option A
with_hex line at asks = option_and_then asks (argument_at line at 16)

abbrev pub with_decimal : List ℕ → ℕ → (Argument → Option Command) → Option Command
with_decimal line at asks = option_and_then asks (argument_at line at 10)

-- an argument after another, none where one before it is none
abbrev pub hex_after : List ℕ → Option Argument → Option Argument
hex_after line last = option_and_then (λ (a : Argument). argument_at line a.next 16) last

abbrev pub decimal_after : List ℕ → Option Argument → Option Argument
decimal_after line last = option_and_then (λ (a : Argument). argument_at line a.next 10) last

-- the first argument: the device of an access, the address of a lookup
abbrev pub first_in : List ℕ → Option Argument
first_in line = argument_at line after_letter 16

-- those that follow in an access: offset, width and value
abbrev pub offset_in : List ℕ → Option Argument
offset_in line = hex_after line (first_in line)

abbrev pub width_in : List ℕ → Option Argument
width_in line = decimal_after line (offset_in line)

abbrev pub value_in : List ℕ → Option Argument
value_in line = hex_after line (width_in line)

-- what an argument gives, 0 where there is none
abbrev pub given : Option Argument → ℕ
given (Some a) = a.value
given None = 0

-- whether the line ends after an argument, and there is one
abbrev pub ends_after : List ℕ → Option Argument → Bool
ends_after line (Some a) = eqb a.next (length line)
ends_after line None = false

-- a command, where the line ends at a place
abbrev pub ended_by : List ℕ → ℕ → Command → Option Command
ended_by line at command = cond (eqb at (length line)) (Some command) None

-- "r DEV OFF WIDTH"
unfoldable pub read_by : List ℕ → Option Command
read_by line =
    with_hex line after_letter (λ device.
    with_hex line device.next (λ offset.
    with_decimal line offset.next (λ width.
    ended_by line width.next (Read device.value offset.value width.value))))

-- "w DEV OFF WIDTH VALUE"
unfoldable pub write_by : List ℕ → Option Command
write_by line =
    with_hex line after_letter (λ device.
    with_hex line device.next (λ offset.
    with_decimal line offset.next (λ width.
    with_hex line width.next (λ value.
    ended_by line value.next (Write device.value offset.value width.value value.value)))))

-- "m ADDR WIDTH"
unfoldable pub lookup_by : List ℕ → Option Command
lookup_by line =
    with_hex line after_letter (λ address.
    with_decimal line address.next (λ width.
    ended_by line width.next (Lookup address.value width.value)))

-- "e DEV", "v DEV": the device that is the only argument
unfoldable pub device_by : List ℕ → Option ℕ
device_by line = with_hex line after_letter (λ device. cond (eqb device.next (length line)) (Some device.value) None)

-- what a letter asks, given the line: "z" and "x" stand alone
unfoldable pub command_by : ℕ → List ℕ → Option Command
command_by letter line =
    cond (eqb letter 114) (read_by line)
    (cond (eqb letter 119) (write_by line)
    (cond (eqb letter 109) (lookup_by line)
    (cond (eqb letter 122) (ended_by line after_letter Reset)
    (cond (eqb letter 101) (option_map Enumerate (device_by line))
    (cond (eqb letter 118) (option_map Revision (device_by line))
    (cond (eqb letter 120) (ended_by line after_letter Dump) None))))))

-- r, w, m, z, e, v, x; anything else is unknown
unfoldable pub command_of : List ℕ → Command
command_of line = unwrap_or (command_by (get_or line 0 0) line) Unknown
