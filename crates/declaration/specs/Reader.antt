-- What a reader that holds the file and its position hands out at a position, and where it stands after n fields.
use Rattle.std.specs.Prelude.{ℕ, zero, suc, Bool, ◌&&◌, cond, List, [], ltb, length, is_none, Result, Ok, Err}
use Rattle.refusal.specs.declared.refusal.Refusal.{Refusal}
use Rattle.word.specs.Number.{part_of}
use Rattle.address.specs.Limits.{Limits}
use Rattle.declaration.specs.Frame.{frame_of}
use Rattle.declaration.specs.Take.{taken_of}
use Rattle.declaration.specs.Reading.{begun, end_of, stopped_with, after_taken}
use Rattle.declaration.specs.Answer.{declared_from}
use Rattle.declaration.specs.declared.frame.Field.{Field}
use Rattle.declaration.specs.declared.reading.Reading.{Reading}
use Rattle.declaration.specs.declared.answer.Declaration.{Declaration}
use Rattle.declaration.specs.declared.answer.DeclarationRefusal.{DeclarationRefusal}

-- whether there is a field at a position
abbrev pub more_at : List ℕ → ℕ → Bool
more_at file at = ltb at (length file)

-- "a field's body is handed back as that part of the file"; nothing where the field is refused
abbrev pub body_in : List ℕ → Result Field Refusal → List ℕ
body_in file (Ok f) = part_of file f.start f.length
body_in file (Err r) = []

unfoldable pub field_body : List ℕ → ℕ → List ℕ
field_body file at = body_in file (frame_of file at)

-- where the field after it starts; the position itself where the field is refused
abbrev pub next_of : ℕ → Result Field Refusal → ℕ
next_of at (Ok f) = end_of f
next_of at (Err r) = at

unfoldable pub next_from : List ℕ → ℕ → ℕ
next_from file at = next_of at (frame_of file at)

-- the reader's position after n steps from the start of the file
unfoldable pub advanced : List ℕ → ℕ → ℕ
advanced file zero = 0
advanced file (suc n) = next_from file (advanced file n)

-- one field by what the reader hands out: the frame, the body and the next position
abbrev pub after_handed : Limits → Reading → Result Field Refusal → List ℕ → ℕ → Reading
after_handed l r (Ok f) body next = after_taken r next (taken_of l r.now f.tag body)
after_handed l r (Err refusal) body next = stopped_with r refusal

unfoldable pub reader_field : Limits → List ℕ → Reading → Reading
reader_field l file r =
    cond (is_none r.refusal && more_at file r.at) (after_handed l r (frame_of file r.at) (field_body file r.at) (next_from file r.at)) r

-- after n fields, and the answer to a file that is read so
unfoldable pub reader_fields : Limits → List ℕ → ℕ → Reading
reader_fields l file zero = begun
reader_fields l file (suc n) = reader_field l file (reader_fields l file n)

abbrev pub reader_declares : Limits → List ℕ → Result Declaration DeclarationRefusal
reader_declares l file = declared_from (length file) (reader_fields l file (length file))
