-- One turn of the loop over a file is one step of the reading, and a reading that has stopped is that of the whole file.
use Prim.Native.Nat.{ℕ, suc, ◌+◌, ◌<◌, ◌≤◌}
use mathlib.Core.Bool.{true, false}
use mathlib.Core.List.{List}
use mathlib.Core.Path.{◌≡◌, refl, sym, ap, subst, ◌∙◌}
use borrow.Author.Tests.{lt-ltb, le-ltb, eq-eqb, ne_eqb}
use lib.ListN.{length}
use Rattle.std.specs.Prelude.{Option, Some, None, Result, Ok, Err}
use Rattle.refusal.specs.declared.refusal.Refusal.{Refusal}
use Rattle.word.specs.Number.{part_of}
use Rattle.address.specs.Limits.{Limits}
use Rattle.declaration.specs.Check.{first_failing, unless_refused}
use Rattle.declaration.specs.Frame.{field_header, field_at, framing_checks, frame_of}
use Rattle.declaration.specs.Take.{taken_of}
use Rattle.declaration.specs.Blank.{nothing_so_far}
use Rattle.declaration.specs.Finished.{none_finished, finished_so_far}
use Rattle.declaration.specs.Reading.{reading, end_of, goes, read_field, read_fields, fields_of}
use Rattle.declaration.specs.declared.frame.Field.{Field}
use Rattle.declaration.specs.declared.finished.Finished.{Finished}
use Rattle.declaration.specs.declared.so_far.SoFar.{SoFar}
use Rattle.declaration.specs.declared.reading.Reading.{Reading}
use Rattle.declaration.proofs.Checks.{fails_none}
use Rattle.declaration.proofs.Steps.{field_inside}
use Rattle.declaration.proofs.Ends.{refused_stays, fields_more, fields_all}

module _ (file : List ℕ) (at : ℕ) where
  -- a field that is framed lies in the file, behind its header
  pub record Framed (f : Field) : Type 0 where
    pub behind : f.start ≡ at + field_header
    pub inside : end_of f ≤ length file

  by_passing : (o : Option Refusal) (f : Field) → first_failing (framing_checks file at) ≡ o → unless_refused o (field_at file at) ≡ Ok f → Framed f
  by_passing None f q e =
      let z : field_at file at ≡ f = cc in
      subst Framed z (record { behind = refl; inside = field_inside file at (fails_none (framing_checks file at) q) })
  by_passing (Some x) f q e = absurd (cc)

  pub field_framed : (f : Field) → frame_of file at ≡ Ok f → Framed f
  unfolding frame_of
  field_framed f e = by_passing (first_failing (framing_checks file at)) f refl e

module _ (l : Limits) (file : List ℕ) (at : ℕ) (now : SoFar) (finished : Finished) where
  -- how the loop stands
  abbrev pub here : Reading
  here = reading None at now finished

  going : at < length file → goes file here ≡ true
  going h = lt-ltb at (length file) h

  pub turn_cut : (x : Refusal) → at < length file → frame_of file at ≡ Err x → read_field l file here ≡ reading (Some x) at now finished
  unfolding read_field
  turn_cut x h e = rw (going h, e)

  module _ (f : Field) (h : at < length file) (e : frame_of file at ≡ Ok f) where
    abbrev took : Result SoFar Refusal
    took = taken_of l now f.tag (part_of file f.start f.length)

    pub turn_refused : (x : Refusal) → took ≡ Err x → read_field l file here ≡ reading (Some x) at now finished
    unfolding read_field
    turn_refused x q = rw (going h, e, q)

    pub turn_same : (next : SoFar) → took ≡ Ok next → next.count ≡ now.count → read_field l file here ≡ reading None (end_of f) next finished
    unfolding read_field
    turn_same next q c = rw (going h, e, q, eq-eqb next.count now.count c)

    pub turn_new : (next : SoFar) → took ≡ Ok next → (next.count ≡ now.count → ⊥) → read_field l file here ≡ reading None (end_of f) next (finished_so_far finished now)
    unfolding read_field
    turn_new next q c = rw (going h, e, q, ne_eqb next.count now.count c)

  -- the loop stands so after k fields
  abbrev pub After : ℕ → Type 0
  After k = here ≡ read_fields l file k

  pub stopped : (k : ℕ) (x : Refusal) → After k → read_field l file here ≡ reading (Some x) at now finished → reading (Some x) at now finished ≡ fields_of l file
  stopped k x e s =
      let z : reading (Some x) at now finished ≡ read_fields l file (suc k) = sym s ∙ ap (read_field l file) e ∙ sym (fields_more l file k) in
      z ∙ fields_all l file (suc k) (subst (λ (r : Reading). goes file r ≡ false) z (refused_stays file (reading (Some x) at now finished) x refl))

  pub ended : (k : ℕ) → After k → length file ≤ at → here ≡ fields_of l file
  ended k e h = e ∙ fields_all l file k (subst (λ (r : Reading). goes file r ≡ false) e (le-ltb at (length file) h))

-- before the first field
pub nothing_read : (l : Limits) (file : List ℕ) → reading None 0 nothing_so_far none_finished ≡ read_fields l file 0
unfolding read_fields
nothing_read l file = refl

-- one turn further
pub onward : (l : Limits) (file : List ℕ) (at : ℕ) (now : SoFar) (finished : Finished) (next : ℕ) (then : SoFar) (more : Finished) (k : ℕ) → After l file at now finished k → read_field l file (here l file at now finished) ≡ reading None next then more → After l file next then more (suc k)
onward l file at now finished next then more k e s = sym s ∙ ap (read_field l file) e ∙ sym (fields_more l file k)
