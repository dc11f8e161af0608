-- The lines of the text (document 01, the Run case).
use Rattle.std.specs.Prelude.{ℕ, ◌+◌, List, [], ◌∷◌, ◌++◌}
use Rattle.refusal.specs.Refusal.{number_of}
use Rattle.bar.specs.declared.range.Aperture.{Aperture}
use Rattle.declaration.specs.declared.answer.DeclarationRefusal.{DeclarationRefusal}
use Rattle.declaration.specs.declared.answer.Place.{Place}
use Rattle.declaration.specs.declared.answer.Place.TheVariants.{Offset, Index}
use Rattle.text.specs.Numeral.{hex_of, decimal_room, decimal_of}

-- "aperture", "refused ", " ", "." and the end of a line, in ASCII
abbrev pub aperture_word : List ℕ
aperture_word = 97 ∷ 112 ∷ 101 ∷ 114 ∷ 116 ∷ 117 ∷ 114 ∷ 101 ∷ []

abbrev pub refused_word : List ℕ
refused_word = 114 ∷ 101 ∷ 102 ∷ 117 ∷ 115 ∷ 101 ∷ 100 ∷ 32 ∷ []

abbrev pub blank : List ℕ
blank = 32 ∷ []

abbrev pub dot : List ℕ
dot = 46 ∷ []

abbrev pub ended : List ℕ
ended = 10 ∷ []

-- "Hex digits are as many as shown": of an end of the aperture, a device, a slot, an address and a size
abbrev pub end_digits : ℕ
end_digits = 9

abbrev pub device_digits : ℕ
device_digits = 2

abbrev pub slot_digits : ℕ
slot_digits = 1

abbrev pub address_digits : ℕ
address_digits = 8

abbrev pub size_digits : ℕ
size_digits = 9

-- a blank and n hex digits
unfoldable pub column : ℕ → ℕ → List ℕ
column n v = blank ++ hex_of n v

-- "aperture 080000000 080010000": start and end
unfoldable pub aperture_line : Aperture → List ℕ
aperture_line a = aperture_word ++ column end_digits a.start ++ column end_digits a.end ++ ended

-- "device as two hex digits", and the dot that follows it
unfoldable pub device_text : ℕ → List ℕ
device_text device = hex_of device_digits device ++ dot

-- "03.0 80001000 000001000": device, slot, address and size
unfoldable pub bar_line : ℕ → ℕ → ℕ → ℕ → List ℕ
bar_line device slot address size = device_text device ++ hex_of slot_digits slot ++ column address_digits address ++ column size_digits size ++ ended

-- a place: an offset of the file, or an index of a device, in decimal
unfoldable pub place_text : Place → List ℕ
place_text (Offset at) = decimal_of at
place_text (Index device index) = device_text device ++ decimal_of index

-- "refused 16 03.1", "refused 2 19"
unfoldable pub refused_line : DeclarationRefusal → List ℕ
refused_line e = refused_word ++ decimal_of (number_of e.refusal) ++ blank ++ place_text e.place ++ ended

-- "refused long"
abbrev pub refused_long : List ℕ
refused_long = refused_word ++ (108 ∷ 111 ∷ 110 ∷ 103 ∷ 10 ∷ [])

-- how long these lines are, and the room that a refusal takes at most: two numbers of twenty digits, and the device
abbrev pub aperture_length : ℕ
aperture_length = 29

abbrev pub bar_length : ℕ
bar_length = 24

abbrev pub place_room : ℕ
place_room = 3 + decimal_room

abbrev pub refused_room : ℕ
refused_room = 8 + decimal_room + 1 + place_room + 1
