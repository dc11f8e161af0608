-- Framing by its checks: which refusal is given where the first of them fails, and the field where none does.
use Prim.Native.Nat.{ℕ, ◌+◌, ◌-◌, ◌<◌, ◌≤◌}
use mathlib.Core.Bool.{true, false}
use mathlib.Core.List.{List}
use mathlib.Core.Path.{◌≡◌}
use native.Mathlib.Omega.{arith}
use borrow.Author.Tests.{lt-ltb, le-ltb}
use lib.ListN.{length}
use Rattle.std.specs.Prelude.{Some, None, Ok, Err}
use Rattle.refusal.specs.declared.refusal.Refusal.TheVariants.{FieldCut, BadForm, LongBody}
use Rattle.declaration.specs.Tag.{tag_of, allows, is_long, length_allowed, body_long}
use Rattle.declaration.specs.declared.tag.Tag.{Tag}
use Rattle.declaration.specs.Frame.{field_header, tag_at, length_at, header_cut, body_cut, field_at, frame_of}

-- the two cuts by what is left of the file
module _ (file : List ℕ) (at left : ℕ) (l : left ≡ length file - at) where
  pub header_cut_lem : left < field_header → header_cut file at ≡ true
  header_cut_lem h = lt-ltb (length file) (at + field_header) (omega arith)

  pub header_there : field_header ≤ left → header_cut file at ≡ false
  header_there h = le-ltb (length file) (at + field_header) (omega arith)

  pub body_cut_lem : field_header ≤ left → left - field_header < length_at file at → body_cut file at ≡ true
  body_cut_lem h k = lt-ltb (length file) (at + field_header + length_at file at) (omega arith)

  pub body_there : field_header ≤ left → length_at file at ≤ left - field_header → body_cut file at ≡ false
  body_there h k = le-ltb (length file) (at + field_header + length_at file at) (omega arith)

-- tag and length by the byte's tag
pub unknown_tag : (n len : ℕ) → tag_of n ≡ None → length_allowed n len ≡ false
unfolding length_allowed
unknown_tag n len e = rw e

pub allowed_is : (n len : ℕ) (t : Tag) → tag_of n ≡ Some t → length_allowed n len ≡ allows t len
unfolding length_allowed
allowed_is n len t e = rw e

pub long_is : (n len : ℕ) (t : Tag) → tag_of n ≡ Some t → body_long n len ≡ is_long t len
unfolding body_long
long_is n len t e = rw e

module _ (file : List ℕ) (at : ℕ) where
  pub frame_header_cut : header_cut file at ≡ true → frame_of file at ≡ Err FieldCut
  unfolding frame_of
  frame_header_cut h = rw h

  module _ (h : header_cut file at ≡ false) where
    pub frame_bad_form : length_allowed (tag_at file at) (length_at file at) ≡ false → frame_of file at ≡ Err BadForm
    unfolding frame_of
    frame_bad_form a = rw (h, a)

    module _ (a : length_allowed (tag_at file at) (length_at file at) ≡ true) where
      pub frame_long : body_long (tag_at file at) (length_at file at) ≡ true → frame_of file at ≡ Err LongBody
      unfolding frame_of
      frame_long l = rw (h, a, l)

      module _ (l : body_long (tag_at file at) (length_at file at) ≡ false) where
        pub frame_body_cut : body_cut file at ≡ true → frame_of file at ≡ Err FieldCut
        unfolding frame_of
        frame_body_cut b = rw (h, a, l, b)

        pub frame_field : body_cut file at ≡ false → frame_of file at ≡ Ok (field_at file at)
        unfolding frame_of
        frame_field b = rw (h, a, l, b)
