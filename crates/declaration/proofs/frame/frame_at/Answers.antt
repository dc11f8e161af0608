-- `frame_at` makes the four checks in their order. A sum that could wrap is a difference in the code.
use mathlib.Core.Bool.{true, false}
use mathlib.Core.Path.{◌≡◌, sym, ◌∙◌}
use Rattle.declaration.specs.Tag.{length_allowed, body_long}
use Rattle.declaration.specs.Frame.{tag_at, length_at, header_cut}
use Rattle.declaration.proofs.Frames.{header_cut_lem, header_there, body_cut_lem, body_there, unknown_tag, allowed_is, long_is, frame_header_cut, frame_bad_form, frame_long, frame_body_cut, frame_field}
use Rattle.declaration.proofs.frame.frame_at.Goals as goal
use Rattle.declaration.proofs.frame.frame_at.Goals.{Else-left-lt-FIELD_HEADER, Else-is_long, Else-not-allows}

-- what is known once the header is there, and once its tag and length are allowed
there : (c : Else-left-lt-FIELD_HEADER) → let a = c.args in header_cut a.file.now a.at ≡ false
there c = let a = c.args in header_there a.file.now a.at _ c.past-left.ensures c.if-left-lt-FIELD_HEADER.false

allowed : (c : Else-not-allows) → let a = c.args in length_allowed (tag_at a.file.now a.at) (length_at a.file.now a.at) ≡ true
allowed c = allowed_is _ _ _ (sym c.new.ensures ∙ c.in-Some.is) ∙ rw (← c.read-length.ensures) (sym c.allows.ensures ∙ c.if-not-allows.false)

short : (c : Else-is_long) → let a = c.args in body_long (tag_at a.file.now a.at) (length_at a.file.now a.at) ≡ false
short c = long_is _ _ _ (sym c.new.ensures ∙ c.in-Some.is) ∙ rw (← c.read-length.ensures) (sym c.is_long.ensures ∙ c.if-is_long.false)

pub returns-then-left-lt-FIELD_HEADER : goal.returns-then-left-lt-FIELD_HEADER
returns-then-left-lt-FIELD_HEADER c = let a = c.args in sym (frame_header_cut _ _ (header_cut_lem a.file.now a.at _ c.past-left.ensures c.if-left-lt-FIELD_HEADER.true))

pub returns-in_default : goal.returns-in_default
returns-in_default c = sym (frame_bad_form _ _ (there (goal.at.returns-in_default c).Else-left-lt-FIELD_HEADER) (unknown_tag _ _ (sym c.new.ensures ∙ c.in_default.is)))

pub returns-then-not-allows : goal.returns-then-not-allows
returns-then-not-allows c =
    sym (frame_bad_form _ _ (there (goal.at.returns-then-not-allows c).Else-left-lt-FIELD_HEADER) (allowed_is _ _ _ (sym c.new.ensures ∙ c.in-Some.is) ∙ rw (← c.read-length.ensures) (sym c.allows.ensures ∙ c.if-not-allows.true)))

pub returns-then-is_long : goal.returns-then-is_long
returns-then-is_long c =
    sym (frame_long _ _ (there (goal.at.returns-then-is_long c).Else-left-lt-FIELD_HEADER) (allowed (goal.at.returns-then-is_long c).Else-not-allows) (long_is _ _ _ (sym c.new.ensures ∙ c.in-Some.is) ∙ rw (← c.read-length.ensures) (sym c.is_long.ensures ∙ c.if-is_long.true)))

pub returns-then-left-length : goal.returns-then-left-length
returns-then-left-length c =
    let a = c.args in
    let e = c.past-left.ensures in
    let h = c.if-left-lt-FIELD_HEADER.false in
    sym (frame_body_cut _ _ (there (goal.at.returns-then-left-length c).Else-left-lt-FIELD_HEADER) (allowed (goal.at.returns-then-left-length c).Else-not-allows) (short (goal.at.returns-then-left-length c).Else-is_long) (body_cut_lem a.file.now a.at _ e h (rw (← c.read-length.ensures) c.if-left-length.true)))

pub returns : goal.returns
returns c =
    let a = c.args in
    let e = c.past-left.ensures in
    let h = c.if-left-lt-FIELD_HEADER.false in
    let r = c.read-length.ensures in
    rw r (sym (frame_field _ _ (there (goal.at.returns c).Else-left-lt-FIELD_HEADER) (allowed (goal.at.returns c).Else-not-allows) (short (goal.at.returns c).Else-is_long) (body_there a.file.now a.at _ e h (rw (← r) c.if-left-length.false))))
