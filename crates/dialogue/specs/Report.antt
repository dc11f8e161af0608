-- A report and a revision, as text (the console's table of commands).
use Rattle.std.specs.Prelude.{ℕ, ◌+◌, ◌*◌, min, cond, List, [], ◌∷◌, ◌++◌, eqb, get_or}
use Rattle.text.specs.Numeral.{hex_of, decimal_room, decimal_of}
use Rattle.text.specs.Part.{parts_below}
use Rattle.text.specs.Line.{ended, column}
use Rattle.address.specs.Layout.{bar_count}
use Rattle.address.specs.Limits.{capability_room}
use Rattle.config.specs.declared.function.Identity.{Identity}
use Rattle.bus.specs.Bus.{function_at, index_on, declared_on}
use Rattle.bus.specs.declared.state.Bus.{Bus}
use Rattle.enumeration.specs.Enumerate.{empty_slot, no_listed}
use Rattle.enumeration.specs.declared.report.SlotReport.{SlotReport}
use Rattle.enumeration.specs.declared.report.Listed.{Listed}
use Rattle.enumeration.specs.declared.report.Report.{Report}

-- "function", " rev", " class", " pin", "bar", "cap", "revision " and ":", in ASCII
abbrev pub function_word : List ℕ
function_word = 102 ∷ 117 ∷ 110 ∷ 99 ∷ 116 ∷ 105 ∷ 111 ∷ 110 ∷ []

abbrev pub rev_word : List ℕ
rev_word = 32 ∷ 114 ∷ 101 ∷ 118 ∷ []

abbrev pub class_word : List ℕ
class_word = 32 ∷ 99 ∷ 108 ∷ 97 ∷ 115 ∷ 115 ∷ []

abbrev pub pin_word : List ℕ
pin_word = 32 ∷ 112 ∷ 105 ∷ 110 ∷ []

abbrev pub bar_word : List ℕ
bar_word = 98 ∷ 97 ∷ 114 ∷ []

abbrev pub cap_word : List ℕ
cap_word = 99 ∷ 97 ∷ 112 ∷ []

abbrev pub revision_word : List ℕ
revision_word = 114 ∷ 101 ∷ 118 ∷ 105 ∷ 115 ∷ 105 ∷ 111 ∷ 110 ∷ 32 ∷ []

abbrev pub colon : List ℕ
colon = 58 ∷ []

-- the lines "end" and "absent"
abbrev pub end_line : List ℕ
end_line = 101 ∷ 110 ∷ 100 ∷ 10 ∷ []

abbrev pub absent_line : List ℕ
absent_line = 97 ∷ 98 ∷ 115 ∷ 101 ∷ 110 ∷ 116 ∷ 10 ∷ []

-- " 1af4:1001"
unfoldable pub pair_text : ℕ → ℕ → List ℕ
pair_text vendor id = column 4 vendor ++ colon ++ hex_of 4 id

abbrev pub pair_room : ℕ
pair_room = 5 + 1 + 4

-- "function 03 1af4:1001 1af4:0002"
unfoldable pub ids_text : ℕ → Identity → List ℕ
ids_text device i = function_word ++ column 2 device ++ pair_text i.vendor i.device ++ pair_text i.subsystem_vendor i.subsystem

abbrev pub ids_room : ℕ
ids_room = 8 + 3 + 2 * pair_room

-- " class 010000": "base class, subclass, programming interface"
unfoldable pub class_text : Identity → List ℕ
class_text i = class_word ++ column 2 i.base_class ++ hex_of 2 i.subclass ++ hex_of 2 i.programming_interface

abbrev pub class_room : ℕ
class_room = 6 + 3 + 2 + 2

-- "function 03 1af4:1001 1af4:0002 rev 01 class 010000 pin 1"
unfoldable pub function_line : ℕ → Identity → ℕ → List ℕ
function_line device i pin = ids_text device i ++ rev_word ++ column 2 i.revision ++ class_text i ++ pin_word ++ column 1 pin ++ ended

abbrev pub function_line_room : ℕ
function_line_room = ids_room + 4 + 3 + class_room + 4 + 2 + 1

-- "bar SLOT ADDRESS8 SIZE9 for each slot that is not empty"
unfoldable pub slot_line : ℕ → SlotReport → List ℕ
slot_line i s = bar_word ++ column 1 i ++ column 8 s.address ++ column 9 s.size ++ ended

abbrev pub slot_text : ℕ → SlotReport → List ℕ
slot_text i s = cond (eqb s.size 0) [] (slot_line i s)

abbrev pub slot_room : ℕ
slot_room = 3 + 2 + 9 + 10 + 1

abbrev pub slot_in : Report → ℕ → List ℕ
slot_in r i = slot_text i (get_or r.slots i empty_slot)

unfoldable pub slots_text : Report → List ℕ
slots_text r = parts_below (slot_in r) bar_count

-- "cap OFFSET ID in the chain's order"
unfoldable pub listed_text : Listed → List ℕ
listed_text l = cap_word ++ column 2 l.offset ++ column 2 l.id ++ ended

abbrev pub listed_room : ℕ
listed_room = 3 + 3 + 3 + 1

abbrev pub listed_in : Report → ℕ → List ℕ
listed_in r k = listed_text (get_or r.list k no_listed)

unfoldable pub list_text : Report → List ℕ
list_text r = parts_below (listed_in r) (min r.list_count capability_room)

-- "A report, one line each, ended by `end`"
unfoldable pub present_text : ℕ → Report → List ℕ
present_text device r = function_line device r.identity r.pin ++ slots_text r ++ list_text r ++ end_line

abbrev pub report_room : ℕ
report_room = function_line_room + bar_count * slot_room + capability_room * listed_room + 4

-- "absent, or a report"
unfoldable pub report_text : ℕ → Report → List ℕ
report_text device r = cond r.present (present_text device r) absent_line

-- "revision DECIMAL"
unfoldable pub counted_text : ℕ → List ℕ
counted_text revision = revision_word ++ decimal_of revision ++ ended

abbrev pub revision_room : ℕ
revision_room = 9 + decimal_room + 1

-- "absent" where the device is not declared
unfoldable pub revision_text : Bus → ℕ → List ℕ
revision_text b device = cond (declared_on b device) (counted_text (function_at b (index_on b device)).revision) absent_line
