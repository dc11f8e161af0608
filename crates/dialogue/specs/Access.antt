-- The answers to reads, writes, lookups and resets, as text (the console's table of commands).
use Rattle.std.specs.Prelude.{ℕ, ◌+◌, ◌*◌, min, Option, None, Some, Result, Ok, Err, List, [], ◌∷◌, ◌++◌}
use Rattle.refusal.specs.Number as refusal
use Rattle.refusal.specs.Refusal.{number_of}
use Rattle.refusal.specs.declared.refusal.Refusal.{Refusal}
use Rattle.text.specs.Numeral.{hex_of, decimal_room, decimal_of}
use Rattle.text.specs.Line.{refused_word, dot, ended, column}
use Rattle.address.specs.Check.{most_width}
use Rattle.config.specs.declared.read_step.ReadAnswer.{ReadAnswer}
use Rattle.config.specs.declared.read_step.ReadAnswer.TheVariants as read_answer
use Rattle.bus.specs.declared.write_access.BusWriteAnswer.{BusWriteAnswer}
use Rattle.bus.specs.declared.write_access.BusWriteAnswer.TheVariants as write_answer
use Rattle.bus.specs.declared.write_access.WriteRefusal.{WriteRefusal}
use Rattle.bus.specs.declared.write_access.WriteRefusal.TheVariants as write_refused
use Rattle.bus.specs.declared.memory_lookup.Hit.{Hit}
use Rattle.bus.specs.declared.bus_reset.Exhausted.{Exhausted}
use Rattle.dialogue.specs.Effect.{effect_text, effect_room}

-- "value ", "probing", "moved", "kept", "hit", in ASCII
abbrev pub value_word : List ℕ
value_word = 118 ∷ 97 ∷ 108 ∷ 117 ∷ 101 ∷ 32 ∷ []

abbrev pub probing_word : List ℕ
probing_word = 112 ∷ 114 ∷ 111 ∷ 98 ∷ 105 ∷ 110 ∷ 103 ∷ []

abbrev pub moved_word : List ℕ
moved_word = 109 ∷ 111 ∷ 118 ∷ 101 ∷ 100 ∷ []

abbrev pub kept_word : List ℕ
kept_word = 107 ∷ 101 ∷ 112 ∷ 116 ∷ []

abbrev pub hit_word : List ℕ
hit_word = 104 ∷ 105 ∷ 116 ∷ []

-- the lines "stored", "dropped", "miss", "reset"
abbrev pub stored_line : List ℕ
stored_line = 115 ∷ 116 ∷ 111 ∷ 114 ∷ 101 ∷ 100 ∷ 10 ∷ []

abbrev pub dropped_line : List ℕ
dropped_line = 100 ∷ 114 ∷ 111 ∷ 112 ∷ 112 ∷ 101 ∷ 100 ∷ 10 ∷ []

abbrev pub miss_line : List ℕ
miss_line = 109 ∷ 105 ∷ 115 ∷ 115 ∷ 10 ∷ []

abbrev pub reset_line : List ℕ
reset_line = 114 ∷ 101 ∷ 115 ∷ 101 ∷ 116 ∷ 10 ∷ []

-- "value HEX (2 digits a byte of the width)"; a read that gives a value is 4 bytes wide at most
unfoldable pub value_text : ℕ → ℕ → List ℕ
value_text width v = value_word ++ hex_of (2 * min width most_width) v ++ ended

abbrev pub value_room : ℕ
value_room = 6 + 2 * most_width + 1

-- "refused N"
unfoldable pub refused_text : ℕ → List ℕ
refused_text number = refused_word ++ decimal_of number ++ ended

abbrev pub refused_room : ℕ
refused_room = 8 + decimal_room + 1

-- "refused 20 DD"
unfoldable pub exhausted_text : ℕ → List ℕ
exhausted_text device = refused_word ++ decimal_of refusal.exhausted ++ column 2 device ++ ended

abbrev pub exhausted_room : ℕ
exhausted_room = 8 + decimal_room + 3 + 1

-- the longest of these answers is an effect
abbrev pub access_room : ℕ
access_room = effect_room

abbrev pub read_text : ℕ → Result ReadAnswer Refusal → List ℕ
read_text width (Ok (read_answer.Value v)) = value_text width v
read_text width (Ok (read_answer.Effect hit body)) = effect_text hit body
read_text width (Err r) = refused_text (number_of r)

-- "probing SLOT"
unfoldable pub probing_text : ℕ → List ℕ
probing_text slot = probing_word ++ column 1 slot ++ ended

abbrev pub probing_room : ℕ
probing_room = 7 + 2 + 1

-- "moved SLOT ADDRESS8", "kept SLOT ADDRESS8"
unfoldable pub placed_text : List ℕ → ℕ → ℕ → List ℕ
placed_text word slot address = word ++ column 1 slot ++ column 8 address ++ ended

-- without the word
abbrev pub placed_room : ℕ
placed_room = 2 + 9 + 1

abbrev pub did_text : BusWriteAnswer → List ℕ
did_text write_answer.Stored = stored_line
did_text write_answer.Dropped = dropped_line
did_text (write_answer.Probing slot) = probing_text slot
did_text (write_answer.Moved slot address) = placed_text moved_word slot address
did_text (write_answer.Kept slot address) = placed_text kept_word slot address
did_text (write_answer.Effect hit body) = effect_text hit body

-- "refused N", with the device where it is 20
abbrev pub write_refused_text : WriteRefusal → List ℕ
write_refused_text write_refused.BadAccess = refused_text refusal.bad_access
write_refused_text write_refused.BadTouch = refused_text refusal.bad_touch
write_refused_text (write_refused.Exhausted device) = exhausted_text device

abbrev pub write_text : Result BusWriteAnswer WriteRefusal → List ℕ
write_text (Ok a) = did_text a
write_text (Err r) = write_refused_text r

-- "hit DD.S OFFSET8"
unfoldable pub hit_text : ℕ → ℕ → ℕ → List ℕ
hit_text device slot offset = hit_word ++ column 2 device ++ dot ++ hex_of 1 slot ++ column 8 offset ++ ended

abbrev pub hit_room : ℕ
hit_room = 3 + 3 + 1 + 1 + 9 + 1

abbrev pub lookup_text : Result (Option Hit) Refusal → List ℕ
lookup_text (Ok (Some h)) = hit_text h.device h.slot h.offset
lookup_text (Ok None) = miss_line
lookup_text (Err r) = refused_text (number_of r)

abbrev pub reset_text : Result Unit Exhausted → List ℕ
reset_text (Ok t) = reset_line
reset_text (Err e) = exhausted_text e.0
