-- A file gets an answer exactly if its outcome holds: the first bad field decides, then the end of the file, then the first function with a fault.
use Prim.Native.Nat.{ℕ, zero, suc, ◌<◌, ◌≤◌}
use mathlib.Core.Bool.{false}
use mathlib.Core.List.{List}
use mathlib.Core.Logic.{◌⊎◌, inl, inr, ⊎_elim}
use mathlib.Core.Path.{◌≡◌, refl, sym, ap, ◌∙◌}
use native.Mathlib.Omega.{arith}
use borrow.Author.Tests.{lt-ltb, le-ltb, ltb-false}
use lib.Dec.{ltb}
use lib.ListN.{length}
use Rattle.std.specs.Prelude.{Option, Some, None, Result}
use Rattle.refusal.specs.declared.refusal.Refusal.{Refusal}
use Rattle.refusal.specs.declared.refusal.Refusal.TheVariants.{OutOfOrder}
use Rattle.address.specs.Limits.{Limits}
use Rattle.bar.specs.declared.range.Aperture.{Aperture}
use Rattle.declaration.specs.Answer.{accepted_with, refused_with, checked_whole, declared_from, declared_by}
use Rattle.declaration.specs.Exactly.{FirstFails, all_checks, Reached, start, field, RefusedAt, bad_field, no_aperture, Read, FaultyAt, Passed, Outcome, at_offset, at_index, passed}
use Rattle.declaration.specs.Finished.{function_at, finished_so_far}
use Rattle.declaration.specs.Reading.{reading, read_field, read_fields, fields_of}
use Rattle.declaration.specs.declared.answer.Declaration.{Declaration}
use Rattle.declaration.specs.declared.answer.DeclarationRefusal.{DeclarationRefusal}
use Rattle.declaration.specs.declared.answer.Place.TheVariants as place
use Rattle.declaration.specs.declared.finished.Finished.{Finished}
use Rattle.declaration.specs.declared.reading.Reading.{Reading}
use Rattle.declaration.specs.declared.so_far.SoFar.{SoFar}
use Rattle.declaration.proofs.Steps.{framing_passes, field_inside, step_refused, step_taken}
use Rattle.declaration.proofs.Ends.{by_step, refused_stays, goes_inside, fields_more, fields_end, fields_all}
use Rattle.declaration.proofs.Wholes.{whole_faulty, whole_good, first_faulty_lem}

-- a reading stands behind accepted fields, or at one of which a check fails
pub record Arrived (l : Limits) (file : List ℕ) (r : Reading) : Type 0 where
  pub reached : Reached l file r.at r.now r.finished
  pub refusal : (r.refusal ≡ None) ⊎ ((x : Refusal) × (r.refusal ≡ Some x) × (r.at < length file) × FirstFails (all_checks l file r.at r.now) x)

module _ (l : Limits) (file : List ℕ) where
  -- fields that are accepted are not cut
  pub reached_inside : (at : ℕ) (s : SoFar) (f : Finished) → Reached l file at s f → at ≤ length file
  reached_inside at s f start = omega arith
  reached_inside at s f (field p t g r h none) = field_inside file p (framing_passes l file p t none)

  pub begun_arrived : Arrived l file (read_fields l file 0)
  unfolding read_fields
  begun_arrived = record { reached = start; refusal = inl refl }

  step_arrived : (r : Reading) → Arrived l file r → Arrived l file (read_field l file r)
  step_arrived r h =
      by_step l file r (Arrived l file) (λ g. h) (λ x g f. record { reached = h.reached; refusal = inr (x, refl, goes_inside file r g, f) })
      (λ g none. record { reached = field r.at r.now r.finished h.reached (goes_inside file r g) none; refusal = inl refl })

  pub arrived : (n : ℕ) → Arrived l file (read_fields l file n)
  arrived zero = begun_arrived
  arrived (suc n) = rw (fields_more l file n) (step_arrived (read_fields l file n) (arrived n))

  -- and whatever is reached is reached after some number of steps

  pub reached_is : (at : ℕ) (s : SoFar) (f : Finished) → Reached l file at s f → (n : ℕ) × (read_fields l file n ≡ reading None at s f)
  unfolding read_fields
  reached_is at s f start = (0, refl)
  reached_is at s f (field p t g r h none) =
      let q = reached_is p t g r in
      (suc q.0, fields_more l file q.0 ∙ ap (read_field l file) q.1 ∙ step_taken l file (reading None p t g) (lt-ltb p (length file) h) none)

  -- where the reading ends
  stopped_is : (x : Refusal) (at : ℕ) (s : SoFar) (f : Finished) → Reached l file at s f → at < length file → FirstFails (all_checks l file at s) x → fields_of l file ≡ reading (Some x) at s f
  stopped_is x at s f r h c =
      let q = reached_is at s f r in
      let e : read_fields l file (suc q.0) ≡ reading (Some x) at s f = fields_more l file q.0 ∙ ap (read_field l file) q.1 ∙ step_refused l file (reading None at s f) x (lt-ltb at (length file) h) c in
      sym (fields_all l file (suc q.0) (rw e (refused_stays file (reading (Some x) at s f) x refl))) ∙ e

  ended_is : (s : SoFar) (f : Finished) → Reached l file (length file) s f → fields_of l file ≡ reading None (length file) s f
  ended_is s f r =
      let q = reached_is (length file) s f r in
      sym (fields_all l file q.0 (rw q.1 (le-ltb (length file) (length file) (omega arith)))) ∙ q.1

  -- the answer there
  from_refused : (x : Refusal) (at : ℕ) (s : SoFar) (f : Finished) → declared_from (length file) (reading (Some x) at s f) ≡ refused_with x (place.Offset at)
  unfolding declared_from
  from_refused x at s f = refl

  from_bare : (s : SoFar) (f : Finished) → s.aperture ≡ None → declared_from (length file) (reading None (length file) s f) ≡ refused_with OutOfOrder (place.Offset (length file))
  unfolding declared_from
  from_bare s f e = rw e

  from_read : (s : SoFar) (f : Finished) (a : Aperture) → s.aperture ≡ Some a → declared_from (length file) (reading None (length file) s f) ≡ checked_whole a (finished_so_far f s)
  unfolding declared_from
  from_read s f a e = rw e

  by_fields : (r : Reading) → fields_of l file ≡ r → declared_by l file ≡ declared_from (length file) r
  unfolding declared_by
  by_fields r e = ap (declared_from (length file)) e

  -- refusals of the reading
  pub refused_at_lem : (n : Refusal) (p : ℕ) → RefusedAt l file n p → declared_by l file ≡ refused_with n (place.Offset p)
  refused_at_lem n p (bad_field at s f r h c) = by_fields (reading (Some n) at s f) (stopped_is n at s f r h c) ∙ from_refused n at s f
  refused_at_lem n p (no_aperture at h q) =
      let r : Reached l file (length file) h.now h.finished = rw h.ends at h.reached in
      rw (q, h.ends) (by_fields (reading None (length file) h.now h.finished) (ended_is h.now h.finished r) ∙ from_bare h.now h.finished h.bare)

  -- the whole file is read
  pub read_is : (a : Aperture) (f : Finished) → Read l file a f → declared_by l file ≡ checked_whole a f
  read_is a f r =
      by_fields (reading None (length file) r.now r.finished) (ended_is r.now r.finished r.reached) ∙ from_read r.now r.finished a r.aperture ∙ rw r.functions

  pub faulty_at : (n : Refusal) (device index : ℕ) → FaultyAt l file n device index → declared_by l file ≡ refused_with n (place.Index device index)
  faulty_at n device index h =
      read_is h.its h.functions h.read ∙ rw (← h.there) (whole_faulty h.its h.functions h.position n index h.below h.before h.fault)

  pub passed_is : (a : Aperture) (f : Finished) → Passed l file a f → declared_by l file ≡ accepted_with a f
  passed_is a f h = read_is a f h.read ∙ whole_good a f h.faultless

  -- the answer is what its outcome says
  pub outcome_is : (d : Result Declaration DeclarationRefusal) → Outcome l file d → declared_by l file ≡ d
  outcome_is d (at_offset n p h) = refused_at_lem n p h
  outcome_is d (at_index n device index h) = faulty_at n device index h
  outcome_is d (passed a f h) = passed_is a f h

  -- and one always holds
  outcome_of : (d : Result Declaration DeclarationRefusal) → Outcome l file d → Outcome l file (declared_by l file)
  outcome_of d o = rw (outcome_is d o) o

  after_read : (a : Aperture) (f : Finished) → Read l file a f → Outcome l file (declared_by l file)
  after_read a f r =
      ⊎_elim (λ h. outcome_of (refused_with h.1 (place.Index (function_at f h.0).device h.2)) (at_index h.1 (function_at f h.0).device h.2 (record { its = a; functions = f; read = r; position = h.0; below = h.3; before = h.4; fault = h.5; there = refl })))
      (λ h. outcome_of (accepted_with a f) (passed a f (record { read = r; faultless = h })))
      (first_faulty_lem a f)

  at_end : (s : SoFar) (f : Finished) → Reached l file (length file) s f → (o : Option Aperture) → s.aperture ≡ o → Outcome l file (declared_by l file)
  at_end s f r (Some a) e = after_read a (finished_so_far f s) (record { now = s; finished = f; reached = r; aperture = e; functions = refl })
  at_end s f r None e = outcome_of (refused_with OutOfOrder (place.Offset (length file))) (at_offset OutOfOrder (length file) (no_aperture (length file) (record { now = s; finished = f; reached = r; ends = refl; bare = e }) refl))

  pub outcome : Outcome l file (declared_by l file)
  outcome =
      let r = fields_of l file in
      let h = arrived (length file) in
      ⊎_elim
      (λ (e : r.refusal ≡ None).
      let g : ltb r.at (length file) ≡ false = rw e at (fields_end l file) in
      let q : r.at ≡ length file = omega (arith, ltb-false r.at (length file) g, reached_inside r.at r.now r.finished h.reached) in
      at_end r.now r.finished (rw q at h.reached) r.now.aperture refl)
      (λ c. outcome_of (refused_with c.0 (place.Offset r.at)) (at_offset c.0 r.at (bad_field r.at r.now r.finished h.reached c.2 c.3)))
      h.refusal
