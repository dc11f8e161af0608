-- Every declared function as a dump that `lspci -F` reads (the console's table of commands).
use Rattle.std.specs.Prelude.{ℕ, ◌+◌, ◌*◌, Result, Ok, Err, List, [], ◌∷◌, ◌++◌, get_or}
use Rattle.text.specs.Numeral.{hex_of}
use Rattle.text.specs.Part.{parts_below}
use Rattle.text.specs.Line.{ended, column}
use Rattle.address.specs.Layout as layout
use Rattle.refusal.specs.declared.refusal.Refusal.{Refusal}
use Rattle.config.specs.declared.read_step.ReadAnswer.{ReadAnswer}
use Rattle.config.specs.declared.read_step.ReadAnswer.TheVariants as read_answer
use Rattle.bus.specs.Bus.{count_on, device_at, function_at}
use Rattle.bus.specs.Access.{bus_read_of}
use Rattle.bus.specs.declared.state.Bus.{Bus}
use Rattle.dialogue.specs.Report.{colon}

-- "00:" and ".0", in ASCII: every function is on bus 0 and is function 0
abbrev pub bus_word : List ℕ
bus_word = 48 ∷ 48 ∷ 58 ∷ []

abbrev pub function_zero : List ℕ
function_zero = 46 ∷ 48 ∷ []

-- "shows what reads of one byte show; a byte that a read does not give (an effect's) is shown as the live image has it"
abbrev pub shown_or : Result ReadAnswer Refusal → ℕ → ℕ
shown_or (Ok (read_answer.Value v)) live = v
shown_or (Ok (read_answer.Effect hit body)) live = live
shown_or (Err r) live = live

unfoldable pub byte_shown : Bus → ℕ → ℕ → ℕ
byte_shown b k o = shown_or (bus_read_of b (device_at b k) o 1) (get_or (function_at b k).live o 0)

-- "16 lines `OO: ` with 16 bytes"
abbrev pub row_bytes : ℕ
row_bytes = 16

abbrev pub row_count : ℕ
row_count = 16

abbrev pub byte_in : Bus → ℕ → ℕ → ℕ → List ℕ
byte_in b k row i = column 2 (byte_shown b k (row * row_bytes + i))

unfoldable pub bytes_text : Bus → ℕ → ℕ → List ℕ
bytes_text b k row = parts_below (byte_in b k row) row_bytes

abbrev pub bytes_room : ℕ
bytes_room = row_bytes * 3

unfoldable pub row_text : Bus → ℕ → ℕ → List ℕ
row_text b k row = hex_of 2 (row * row_bytes) ++ colon ++ bytes_text b k row ++ ended

abbrev pub row_room : ℕ
row_room = 2 + 1 + bytes_room + 1

unfoldable pub rows_text : Bus → ℕ → List ℕ
rows_text b k = parts_below (row_text b k) row_count

-- " 1af4:1001"
unfoldable pub id_text : Bus → ℕ → List ℕ
id_text b k =
    column 2 (byte_shown b k (layout.vendor_id + 1)) ++ hex_of 2 (byte_shown b k layout.vendor_id) ++ colon ++ hex_of 2 (byte_shown b k (layout.device_id + 1)) ++ hex_of 2 (byte_shown b k layout.device_id)

abbrev pub id_room : ℕ
id_room = 3 + 2 + 1 + 2 + 2

-- "00:03.0"
unfoldable pub address_text : ℕ → List ℕ
address_text device = bus_word ++ hex_of 2 device ++ function_zero

abbrev pub address_room : ℕ
address_room = 3 + 2 + 2

-- "00:03.0 0100: 1af4:1001": address, class and ids, as `lspci -n` prints them
unfoldable pub title_text : Bus → ℕ → List ℕ
title_text b k =
    address_text (device_at b k) ++ column 2 (byte_shown b k layout.base_class) ++ hex_of 2 (byte_shown b k layout.subclass) ++ colon ++ id_text b k

abbrev pub title_room : ℕ
title_room = address_room + 3 + 2 + 1 + id_room

-- "then an empty line"
unfoldable pub function_dump : Bus → ℕ → List ℕ
function_dump b k = title_text b k ++ ended ++ rows_text b k ++ ended

abbrev pub dump_room : ℕ
dump_room = title_room + 1 + row_count * row_room + 1

-- "every declared function"
unfoldable pub dump_text : Bus → List ℕ
dump_text b = parts_below (function_dump b) (count_on b)
