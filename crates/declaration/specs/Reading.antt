-- The reading of a file, field by field (document 01: "The first bad field decides").
use Rattle.std.specs.Prelude.{ℕ, zero, suc, ◌+◌, Bool, ◌&&◌, cond, List, ltb, length, is_none, Option, Some, None, Result, Ok, Err}
use Rattle.refusal.specs.declared.refusal.Refusal.{Refusal}
use Rattle.word.specs.Number.{part_of}
use Rattle.address.specs.Limits.{Limits}
use Rattle.declaration.specs.Blank.{nothing_so_far}
use Rattle.declaration.specs.Frame.{frame_of}
use Rattle.declaration.specs.Take.{taken_of}
use Rattle.declaration.specs.Finished.{none_finished, finished_after}
use Rattle.declaration.specs.declared.frame.Field.{Field}
use Rattle.declaration.specs.declared.finished.Finished.{Finished}
use Rattle.declaration.specs.declared.so_far.SoFar.{SoFar}
use Rattle.declaration.specs.declared.reading.Reading.{Reading}

-- how the reading stands: the position of the next field, or of the refused one with its refusal
abbrev pub reading : Option Refusal → ℕ → SoFar → Finished → Reading
reading refusal at now finished = record { refusal = refusal; at = at; now = now; finished = finished }

abbrev pub begun : Reading
begun = reading None 0 nothing_so_far none_finished

abbrev pub stopped_with : Reading → Refusal → Reading
stopped_with r refusal = reading (Some refusal) r.at r.now r.finished

-- a field was taken
abbrev pub gone_on : Reading → ℕ → SoFar → Reading
gone_on r next now = reading None next now (finished_after r.now now r.finished)

abbrev pub after_taken : Reading → ℕ → Result SoFar Refusal → Reading
after_taken r next (Ok now) = gone_on r next now
after_taken r next (Err refusal) = stopped_with r refusal

-- where a field ends
abbrev pub end_of : Field → ℕ
end_of f = f.start + f.length

abbrev pub after_frame : Limits → List ℕ → Reading → Result Field Refusal → Reading
after_frame l file r (Ok f) = after_taken r (end_of f) (taken_of l r.now f.tag (part_of file f.start f.length))
after_frame l file r (Err refusal) = stopped_with r refusal

-- one field more, where there is one and none was refused
abbrev pub goes : List ℕ → Reading → Bool
goes file r = is_none r.refusal && ltb r.at (length file)

unfoldable pub read_field : Limits → List ℕ → Reading → Reading
read_field l file r = cond (goes file r) (after_frame l file r (frame_of file r.at)) r

-- after n fields
unfoldable pub read_fields : Limits → List ℕ → ℕ → Reading
read_fields l file zero = begun
read_fields l file (suc n) = read_field l file (read_fields l file n)

-- all of them: a file has no more fields than bytes
abbrev pub fields_of : Limits → List ℕ → Reading
fields_of l file = read_fields l file (length file)
