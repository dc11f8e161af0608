-- Framing: from a position in the file to a field's tag and body (document 01: "Fields: one-byte tag, two-byte length, body").
use Rattle.std.specs.Prelude.{ℕ, ◌+◌, Bool, not, List, [], ◌∷◌, ltb, length, get_or, take, drop, Result}
use Rattle.refusal.specs.declared.refusal.Refusal.{Refusal}
use Rattle.refusal.specs.declared.refusal.Refusal.TheVariants.{FieldCut, BadForm, LongBody}
use Rattle.word.specs.Number.{read_at}
use Rattle.declaration.specs.Check.{Check, ◌when◌, first_failing, unless_refused}
use Rattle.declaration.specs.Tag.{length_allowed, body_long}
use Rattle.declaration.specs.declared.frame.Field.{Field}

-- tag and length come before the body
abbrev pub field_header : ℕ
field_header = 3

abbrev pub tag_at : List ℕ → ℕ → ℕ
tag_at file at = get_or file at 0

abbrev pub length_at : List ℕ → ℕ → ℕ
length_at file at = read_at file (at + 1) 2

-- "header .. of a field is cut"
abbrev pub header_cut : List ℕ → ℕ → Bool
header_cut file at = ltb (length file) (at + field_header)

-- "unknown tag, wrong length"
abbrev pub bad_tag_or_length : List ℕ → ℕ → Bool
bad_tag_or_length file at = not (length_allowed (tag_at file at) (length_at file at))

-- "capability body above 253 bytes"
abbrev pub body_too_long : List ℕ → ℕ → Bool
body_too_long file at = body_long (tag_at file at) (length_at file at)

-- ".. or body of a field is cut"
abbrev pub body_cut : List ℕ → ℕ → Bool
body_cut file at = ltb (length file) (at + field_header + length_at file at)

-- "Order within a field: header cut, tag and length, 10, body cut"
abbrev pub framing_checks : List ℕ → ℕ → List Check
framing_checks file at =
    (FieldCut when header_cut file at) ∷
    (BadForm when bad_tag_or_length file at) ∷
    (LongBody when body_too_long file at) ∷
    (FieldCut when body_cut file at) ∷
    []

-- a field's body as that part of the file
abbrev pub body_at : List ℕ → ℕ → List ℕ
body_at file at = take (length_at file at) (drop (at + field_header) file)

-- where a field ends, and the next one starts
abbrev pub field_end : List ℕ → ℕ → ℕ
field_end file at = at + field_header + length_at file at

abbrev pub field_at : List ℕ → ℕ → Field
field_at file at = record { tag = tag_at file at; start = at + field_header; length = length_at file at }

-- the field at a position, or the refusal of the first check that fails
unfoldable pub frame_of : List ℕ → ℕ → Result Field Refusal
frame_of file at = unless_refused (first_failing (framing_checks file at)) (field_at file at)
