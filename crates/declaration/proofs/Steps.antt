-- One field of the reading is its checks in document 01's order: framing and taking together give the first that fails.
use Prim.Native.Nat.{ℕ, ◌+◌, ◌≤◌}
use mathlib.Core.Bool.{true, false}
use mathlib.Core.List.{List}
use mathlib.Core.Logic.{⊎_elim}
use mathlib.Core.Path.{◌≡◌, refl, sym, ◌∙◌}
use native.Mathlib.Omega.{arith}
use borrow.Author.Tests.{ltb-false}
use lib.ListN.{length, drop, length-take, length-drop, get_or-append}
use Rattle.std.specs.Prelude.{Some, None, Ok}
use Rattle.refusal.specs.declared.refusal.Refusal.{Refusal}
use Rattle.refusal.specs.declared.refusal.Refusal.TheVariants.{FieldCut}
use Rattle.address.specs.Limits.{Limits}
use Rattle.declaration.specs.Check.{◌when◌, first_failing}
use Rattle.declaration.specs.Exactly.{FirstFails, NoneFails, said_at, all_checks, now_after}
use Rattle.declaration.specs.Frame.{field_header, tag_at, length_at, body_at, field_end, framing_checks, field_at, frame_of}
use Rattle.declaration.specs.Reading.{stopped_with, gone_on, after_frame, goes, read_field}
use Rattle.declaration.specs.Row.{says, is_long_body, rule_checks}
use Rattle.declaration.specs.Said.{said_of}
use Rattle.declaration.specs.Tag.{body_long}
use Rattle.declaration.specs.Take.{taken_said}
use Rattle.declaration.specs.declared.reading.Reading.{Reading}
use Rattle.declaration.specs.declared.so_far.SoFar.{SoFar}
use Rattle.declaration.proofs.Checks.{some_or_none, none_fails, first_fails, fails_none, fails_left, fails_right}
use Rattle.declaration.proofs.Saids.{by_form}

-- a body that framing lets pass says nothing that 10 refuses
said_short : (tag : ℕ) (body : List ℕ) → body_long tag (length body) ≡ false → says is_long_body (said_of tag body) ≡ false
unfolding body_long
said_short tag body h =
    by_form tag body (λ f. says is_long_body f ≡ false) (record { aperture = refl; function = refl; intx = λ a b. refl; automatic = refl; fixed = refl; config_byte = refl; capability = λ e a. rw e at h; effect = λ a. refl; bad = refl })

module _ (file : List ℕ) (at : ℕ) (none : NoneFails (framing_checks file at)) where
  -- where no check of framing fails the body is there
  pub field_inside : field_end file at ≤ length file
  field_inside = ltb-false (length file) (at + field_header + length_at file at) (none 3 (omega arith))

  pub body_length_lem : length (body_at file at) ≡ length_at file at
  body_length_lem = length-take (length_at file at) (drop (at + field_header) file) ∙ rw (length-drop (at + field_header) file) (omega (arith, field_inside))

  pub short_at : says is_long_body (said_at file at) ≡ false
  short_at = said_short (tag_at file at) (body_at file at) (rw body_length_lem (none 2 (omega arith)))

-- a field whose checks all pass is framed
pub framing_passes : (l : Limits) (file : List ℕ) (at : ℕ) (s : SoFar) → NoneFails (all_checks l file at s) → NoneFails (framing_checks file at)
framing_passes l file at s none k h = rw (← get_or-append (framing_checks file at) (rule_checks l s (said_at file at)) (FieldCut when false) k h) (none k (omega arith))

module _ (l : Limits) (file : List ℕ) (r : Reading) where
  -- the field is taken
  abbrev onwards : Reading
  onwards = gone_on r (field_end file r.at) (now_after file r.at r.now)

  -- framing refuses
  framing_stops : (x : Refusal) → first_failing (framing_checks file r.at) ≡ Some x → after_frame l file r (frame_of file r.at) ≡ stopped_with r x
  unfolding frame_of
  framing_stops x e = rw e

  module _ (none : NoneFails (framing_checks file r.at)) where
    frame_there : frame_of file r.at ≡ Ok (field_at file r.at)
    unfolding frame_of
    frame_there = rw (none_fails (framing_checks file r.at) none)

    -- or the rules decide
    rules_stop : (x : Refusal) → first_failing (rule_checks l r.now (said_at file r.at)) ≡ Some x → after_frame l file r (frame_of file r.at) ≡ stopped_with r x
    unfolding taken_said
    rules_stop x e = rw (frame_there, short_at file r.at none, e)

    rules_pass : first_failing (rule_checks l r.now (said_at file r.at)) ≡ None → after_frame l file r (frame_of file r.at) ≡ onwards
    unfolding taken_said
    rules_pass e = rw (frame_there, short_at file r.at none, e)

  -- so the whole list decides
  checks_stop : (x : Refusal) → first_failing (all_checks l file r.at r.now) ≡ Some x → after_frame l file r (frame_of file r.at) ≡ stopped_with r x
  checks_stop x e =
      ⊎_elim
      (λ (q : (y : Refusal) × (first_failing (framing_checks file r.at) ≡ Some y)). framing_stops x (q.1 ∙ sym (fails_left (framing_checks file r.at) (rule_checks l r.now (said_at file r.at)) q.0 q.1) ∙ e))
      (λ (q : first_failing (framing_checks file r.at) ≡ None).
      let none = fails_none (framing_checks file r.at) q in
      rules_stop none x (sym (fails_right (framing_checks file r.at) (rule_checks l r.now (said_at file r.at)) none) ∙ e))
      (some_or_none (first_failing (framing_checks file r.at)))

  checks_pass : NoneFails (all_checks l file r.at r.now) → after_frame l file r (frame_of file r.at) ≡ onwards
  checks_pass none =
      let framed = framing_passes l file r.at r.now none in
      rules_pass framed (sym (fails_right (framing_checks file r.at) (rule_checks l r.now (said_at file r.at)) framed) ∙ none_fails (all_checks l file r.at r.now) none)

  -- one step of the reading
  pub step_refused : (x : Refusal) → goes file r ≡ true → FirstFails (all_checks l file r.at r.now) x → read_field l file r ≡ stopped_with r x
  unfolding read_field
  step_refused x g f = rw g (checks_stop x (first_fails (all_checks l file r.at r.now) x f))

  pub step_taken : goes file r ≡ true → NoneFails (all_checks l file r.at r.now) → read_field l file r ≡ onwards
  unfolding read_field
  step_taken g none = rw g (checks_pass none)

  pub step_none : goes file r ≡ false → read_field l file r ≡ r
  unfolding read_field
  step_none g = rw g
