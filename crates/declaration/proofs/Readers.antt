-- What the reader hands out: reading by the reader and by `read_fields` go from field to field together.
use Prim.Native.Nat.{ℕ, zero, suc, ◌+◌, ◌≤◌}
use mathlib.Core.Bool.{Bool, true, false}
use mathlib.Core.List.{List}
use mathlib.Core.Path.{◌≡◌, refl, sym, ap, ◌∙◌}
use native.Mathlib.Omega.{arith}
use borrow.Author.Tests.{lt-ltb, ltb-false}
use lib.Dec.{ltb}
use lib.ListN.{length}
use Rattle.std.specs.Prelude.{None, Result, Ok, Err}
use Rattle.refusal.specs.declared.refusal.Refusal.{Refusal}
use Rattle.word.specs.Number.{part_of}
use Rattle.address.specs.Limits.{Limits}
use Rattle.declaration.specs.Frame.{field_header, frame_of}
use Rattle.declaration.specs.Take.{taken_of}
use Rattle.declaration.specs.Reader.{body_in, field_body, next_of, next_from, advanced, after_handed, reader_field, reader_fields, reader_declares}
use Rattle.declaration.specs.Reading.{end_of, after_taken, after_frame, goes, read_field, read_fields}
use Rattle.declaration.specs.Answer.{declared_from, declared_by}
use Rattle.declaration.specs.declared.frame.Field.{Field}
use Rattle.declaration.specs.declared.reading.Reading.{Reading}
use Rattle.declaration.specs.declared.so_far.SoFar.{SoFar}
use Rattle.declaration.proofs.Ends.{goes_accepted}
use Rattle.declaration.proofs.Frames.{frame_header_cut}

module _ (file : List ℕ) (at : ℕ) where
  -- past the end there is no field, and the reader stays
  pub next_end : length file ≤ at → next_from file at ≡ at
  unfolding next_from
  next_end h = rw (frame_header_cut file at (lt-ltb (length file) (at + field_header) (omega arith)))

-- a step by what the reader hands out is a step of the reading
module _ (l : Limits) (file : List ℕ) where
  handed : (r : Reading) (x : Result Field Refusal) → after_handed l r x (body_in file x) (next_of r.at x) ≡ after_frame l file r x
  handed r (Ok f) = refl
  handed r (Err refusal) = refl

  reader_field_lem : (r : Reading) → reader_field l file r ≡ read_field l file r
  unfolding reader_field read_field field_body next_from
  reader_field_lem r = rw (handed r (frame_of file r.at))

  -- so reading by the reader and by `read_fields` gives one answer
  pub reader_reads : (n : ℕ) → reader_fields l file n ≡ read_fields l file n
  unfolding reader_fields read_fields
  reader_reads zero = refl
  reader_reads (suc n) = ap (reader_field l file) (reader_reads n) ∙ reader_field_lem (read_fields l file n)

  pub reader_declares_lem : reader_declares l file ≡ declared_by l file
  unfolding declared_by
  reader_declares_lem = ap (declared_from (length file)) (reader_reads (length file))

  taken_next : (r : Reading) (next : ℕ) (t : Result SoFar Refusal) → (after_taken r next t).refusal ≡ None → (after_taken r next t).at ≡ next
  taken_next r next (Ok s) h = refl
  taken_next r next (Err refusal) h = absurd (cc)

  frame_next : (r : Reading) (x : Result Field Refusal) → (after_frame l file r x).refusal ≡ None → (after_frame l file r x).at ≡ next_of r.at x
  frame_next r (Ok f) h = taken_next r (end_of f) (taken_of l r.now f.tag (part_of file f.start f.length)) h
  frame_next r (Err refusal) h = refl

  -- a step that is not refused comes after one that is not, and is a step of the reader
  stepped : (r : Reading) (b : Bool) → goes file r ≡ b → (read_field l file r).refusal ≡ None → (r.refusal ≡ None) × ((read_field l file r).at ≡ next_from file r.at)
  unfolding read_field next_from
  stepped r true e h = (goes_accepted file r e, rw e (frame_next r (frame_of file r.at) (rw e at h)))
  stepped r false e h =
      let a : r.refusal ≡ None = rw e at h in
      let m : ltb r.at (length file) ≡ false = rw a at e in
      (a, rw e (sym (next_end file r.at (ltb-false r.at (length file) m))))

  -- and the reader stands at the field that is read next
  pub reader_stands : (n : ℕ) → (read_fields l file n).refusal ≡ None → (read_fields l file n).at ≡ advanced file n
  unfolding read_fields advanced
  reader_stands zero h = refl
  reader_stands (suc n) h =
      let r = read_fields l file n in
      let s = stepped r (goes file r) refl h in
      s.1 ∙ ap (next_from file) (reader_stands n s.0)
