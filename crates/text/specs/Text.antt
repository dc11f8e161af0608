-- The whole text, for what is shown of a bus and for a file (document 01, the Run case).
use Rattle.std.specs.Prelude.{ℕ, ◌+◌, ◌*◌, ◌/◌, ◌%◌, cond, List, [], ◌++◌, ◌≡◌, eqb, ltb, length, get_or, take, Result, Ok, Err}
use Rattle.io.specs.Counts.{IsPrefixLen}
use Rattle.address.specs.Layout.{bar_count}
use Rattle.address.specs.Limits.{limits}
use Rattle.bar.specs.declared.range.Range.{Range}
use Rattle.placement.specs.Place.{no_range}
use Rattle.placement.specs.Keys.{key_count}
use Rattle.declaration.specs.declared.answer.DeclarationRefusal.{DeclarationRefusal}
use Rattle.bus.specs.Bus.{ranges_on}
use Rattle.bus.specs.Start.{start_of}
use Rattle.bus.specs.declared.state.Bus.{Bus}
use Rattle.text.specs.Part.{parts_below}
use Rattle.text.specs.Line.{aperture_length, bar_length, aperture_line, bar_line, refused_line, refused_long}
use Rattle.text.specs.declared.shown.Shown.{Shown}

abbrev pub range_at : Shown → ℕ → Range
range_at s key = get_or s.ranges key no_range

-- slot s of function f has the key f · 6 + s; a size of 0 is no BAR
abbrev pub line_at : Shown → ℕ → List ℕ
line_at s key =
    cond (eqb (range_at s key).size 0) [] (bar_line (get_or s.devices (key / bar_count) 0) (key % bar_count) (range_at s key).start (range_at s key).size)

-- the lines of the first n keys: "BAR lines go by device, then slot"
abbrev pub lines_below : Shown → ℕ → List ℕ
lines_below s n = parts_below (line_at s) n

-- the longest text: an aperture's line and one for each key
abbrev pub text_room : ℕ
text_room = aperture_length + key_count * bar_length

unfoldable pub accepted_text : Shown → List ℕ
accepted_text s = aperture_line s.aperture ++ lines_below s key_count

-- what is shown of a bus: the committed ranges by key
unfoldable pub shown_of : Bus → Shown
shown_of b = record { aperture = b.aperture; devices = b.devices; ranges = ranges_on b }

abbrev pub answer_text : Result Bus DeclarationRefusal → List ℕ
answer_text (Ok b) = accepted_text (shown_of b)
answer_text (Err e) = refused_line e

-- "The program takes up to 65,536 bytes"
abbrev pub file_most : ℕ
file_most = 65536

-- what the program prints for a file; "longer input prints `refused long`"
unfoldable pub text_of : List ℕ → List ℕ
text_of file = cond (ltb file_most (length file)) refused_long (answer_text (start_of limits file))

-- the first n bytes of a buffer are the text; `Counts` says that there are as many
abbrev pub Holds : List ℕ → ℕ → List ℕ → Type 0
Holds buffer n text = IsPrefixLen n buffer × (take n buffer ≡ text)
