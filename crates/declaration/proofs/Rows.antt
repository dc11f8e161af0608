-- The rows of document 01's table, one law each: the answer is this refusal at this place exactly if the row holds there and no check before it fails.
use Prim.Native.Nat.{ℕ, ◌<◌}
use mathlib.Core.Bool.{Bool, true, false, not, ◌&&◌, ◌||◌}
use mathlib.Core.List.{List}
use mathlib.Core.Logic.{◌⊎◌, inl, inr, ⊎_elim, ◌↔◌}
use mathlib.Core.Path.{◌≡◌, refl, sym, ap, ◌∙◌}
use native.Mathlib.Omega.{arith}
use borrow.Author.Tests.{eqb-true, eq-eqb}
use lib.Dec.{eqb}
use lib.ListN.{length}
use Rattle.refusal.specs.declared.refusal.Refusal.{Refusal}
use Rattle.refusal.specs.declared.refusal.Refusal.TheVariants as refusal
use Rattle.refusal.specs.Refusal.{number_of}
use Rattle.word.specs.Search.{any_below}
use Rattle.word.proofs.Searches.{any_never}
use Rattle.word.proofs.Tests.{both, or_cases, true_or_false}
use Rattle.address.specs.Limits.{Limits}
use Rattle.declaration.specs.Answer.{refused_with, declared_by}
use Rattle.declaration.specs.Check.{◌when◌}
use Rattle.declaration.specs.Exactly.{refusal_in, fails_at, check_at, FirstFails, said_at, all_checks, Reached, RowAt, EndsBare, RefusedAt, bad_field, no_aperture, FaultyAt}
use Rattle.declaration.specs.Frame.{header_cut, bad_tag_or_length, body_too_long, body_cut}
use Rattle.declaration.specs.Row.{says, is_bad_form, is_out_of_order, is_above_limit, is_bad_device_or_slot, is_absent_vendor, is_bad_size, is_bad_aperture, is_bad_effect}
use Rattle.declaration.specs.declared.answer.Place.TheVariants as place
use Rattle.declaration.specs.declared.finished.Finished.{Finished}
use Rattle.declaration.specs.declared.so_far.SoFar.{SoFar}
use Rattle.declaration.proofs.Answered.{at_refused, at_faulty}
use Rattle.declaration.proofs.Outcomes.{refused_at_lem, faulty_at}

-- how many checks a field has
abbrev check_count : ℕ
check_count = 12

module _ (l : Limits) (file : List ℕ) (at : ℕ) where
  -- the file is refused here so
  abbrev pub RefusedHere : Refusal → Type 0
  RefusedHere n = declared_by l file ≡ refused_with n (place.Offset at)

  -- a check has this refusal and stands at neither of two places
  abbrev elsewhere : SoFar → Refusal → ℕ → ℕ → ℕ → Bool
  elsewhere s n a b k = eqb (number_of (refusal_in (check_at (all_checks l file at s) k))) (number_of n) && not (eqb k a || eqb k b)

  nowhere : (s : SoFar) (n : Refusal) (a b k : ℕ) → elsewhere s n a b k ≡ false → refusal_in (check_at (all_checks l file at s) k) ≡ n → (k ≡ a) ⊎ (k ≡ b)
  nowhere s n a b k e q =
      ⊎_elim (λ (t : eqb k a || eqb k b ≡ true). ⊎_elim (λ u. inl (eqb-true k a u)) (λ u. inr (eqb-true k b u)) (or_cases (eqb k a) (eqb k b) t))
      (λ (t : eqb k a || eqb k b ≡ false). let z : ◌≡◌ {A = Bool} true false = rw (eq-eqb (number_of (refusal_in (check_at (all_checks l file at s) k))) (number_of n) (ap number_of q), t) at e in absurd (both {t = true} refl z))
      (true_or_false (eqb k a || eqb k b))

  -- a row's check is the one at place i, with refusal n
  abbrev IsCheck : Refusal → ℕ → (SoFar → Bool) → Type 0
  IsCheck n i row = (s : SoFar) → check_at (all_checks l file at s) i ≡ (n when row s)

  row_refuses : (n : Refusal) (i : ℕ) (row : SoFar → Bool) → i < check_count → IsCheck n i row → RowAt l file at i row → RefusedHere n
  row_refuses n i row h c r =
      let e = c r.now in
      refused_at_lem l file n at (bad_field at r.now r.finished r.reached r.inside (record { index = i; below = h; fails = ap fails_at e ∙ r.holds; its = ap refusal_in e; before = r.before }))

  refuses_row : (n : Refusal) (a b : ℕ) (row other : SoFar → Bool) → IsCheck n a row → IsCheck n b other → ((s : SoFar) → any_below (elsewhere s n a b) check_count ≡ false) → (s : SoFar) (f : Finished) → Reached l file at s f → at < length file → FirstFails (all_checks l file at s) n → RowAt l file at a row ⊎ RowAt l file at b other
  refuses_row n a b row other c d only s f r h g =
      let at_place : (i : ℕ) (q : SoFar → Bool) → IsCheck n i q → g.index ≡ i → RowAt l file at i q = λ i q e z.
      record { now = s; finished = f; reached = r; inside = h; holds = sym (ap fails_at (e s)) ∙ (rw z at g.fails); before = rw z at g.before } in
      ⊎_elim (λ (z : g.index ≡ a). inl (at_place a row c z)) (λ (z : g.index ≡ b). inr (at_place b other d z))
      (nowhere s n a b g.index (any_never (elsewhere s n a b) check_count (only s) g.index g.below) g.its)

-- a refusal here is one of two checks, or the end of the file
by_refusal : (l : Limits) (file : List ℕ) (at : ℕ) (n : Refusal) (a b : ℕ) (row other : SoFar → Bool) → IsCheck l file at n a row → IsCheck l file at n b other → ((s : SoFar) → any_below (elsewhere l file at s n a b) check_count ≡ false) → RefusedAt l file n at → (RowAt l file at a row ⊎ RowAt l file at b other) ⊎ (EndsBare l file at × (n ≡ refusal.OutOfOrder))
by_refusal l file at n a b row other c d only (bad_field p s f r h g) = inl (refuses_row l file at n a b row other c d only s f r h g)
by_refusal l file at n a b row other c d only (no_aperture p h q) = inr (h, q)

module _ (l : Limits) (file : List ℕ) (at : ℕ) where
  -- rows with two checks, and with one
  two_checks : (n : Refusal) (a b : ℕ) (row other : SoFar → Bool) → (n ≡ refusal.OutOfOrder → ⊥) → a < check_count → b < check_count → IsCheck l file at n a row → IsCheck l file at n b other → ((s : SoFar) → any_below (elsewhere l file at s n a b) check_count ≡ false) → RefusedHere l file at n ↔ (RowAt l file at a row ⊎ RowAt l file at b other)
  two_checks n a b row other z h k c d only = (
    λ e. ⊎_elim (λ r. r) (λ r. absurd (z r.1)) (by_refusal l file at n a b row other c d only (at_refused l file n at e)),
    ⊎_elim (row_refuses l file at n a row h c) (row_refuses l file at n b other k d),
  )

  one_check : (n : Refusal) (a : ℕ) (row : SoFar → Bool) → (n ≡ refusal.OutOfOrder → ⊥) → a < check_count → IsCheck l file at n a row → ((s : SoFar) → any_below (elsewhere l file at s n a a) check_count ≡ false) → RefusedHere l file at n ↔ RowAt l file at a row
  one_check n a row z h c only =
      let t = two_checks n a a row row z h h c c only in
      (λ e. ⊎_elim (λ r. r) (λ r. r) (t.0 e), λ r. t.1 (inl r))

  -- 1: "header or body of a field is cut"
  pub row_cut : RefusedHere l file at refusal.FieldCut ↔ (RowAt l file at 0 (λ s. header_cut file at) ⊎ RowAt l file at 3 (λ s. body_cut file at))
  unfolding any_below
  row_cut = two_checks refusal.FieldCut 0 3 (λ s. header_cut file at) (λ s. body_cut file at) (λ e. cc) (omega arith) (omega arith) (λ s. refl) (λ s. refl) (λ s. refl)

  -- 2: "unknown tag, wrong length"; "byte outside its set, automatic address not zero"
  pub row_form : RefusedHere l file at refusal.BadForm ↔ (RowAt l file at 1 (λ s. bad_tag_or_length file at) ⊎ RowAt l file at 4 (λ s. is_bad_form (said_at file at)))
  unfolding any_below
  row_form = two_checks refusal.BadForm 1 4 (λ s. bad_tag_or_length file at) (λ s. is_bad_form (said_at file at)) (λ e. cc) (omega arith) (omega arith) (λ s. refl) (λ s. refl) (λ s. refl)

  -- 3: "field out of order or repeated; file ends with no aperture (place: its length)"
  pub row_order : RefusedHere l file at refusal.OutOfOrder ↔ (RowAt l file at 5 (λ s. says (is_out_of_order s) (said_at file at)) ⊎ EndsBare l file at)
  unfolding any_below
  row_order =
      let row : SoFar → Bool = λ s. says (is_out_of_order s) (said_at file at) in (
        λ e. ⊎_elim (λ r. ⊎_elim (λ q. inl q) (λ q. inl q) r) (λ r. inr r.0) (by_refusal l file at refusal.OutOfOrder 5 5 row row (λ s. refl) (λ s. refl) (λ s. refl) (at_refused l file refusal.OutOfOrder at e)),
        ⊎_elim (row_refuses l file at refusal.OutOfOrder 5 row (omega arith) (λ s. refl)) (λ h. refused_at_lem l file refusal.OutOfOrder at (no_aperture at h refl)),
      )

  -- 4: "one more than a limit above"
  pub row_limit : RefusedHere l file at refusal.AboveLimit ↔ RowAt l file at 6 (λ s. says (is_above_limit l s) (said_at file at))
  unfolding any_below
  row_limit = one_check refusal.AboveLimit 6 (λ s. says (is_above_limit l s) (said_at file at)) (λ e. cc) (omega arith) (λ s. refl) (λ s. refl)

  -- 5: "device above 31 or declared twice; slot above 5 or used twice in the function"
  pub row_device_or_slot : RefusedHere l file at refusal.BadDeviceOrSlot ↔ RowAt l file at 7 (λ s. says (is_bad_device_or_slot s) (said_at file at))
  unfolding any_below
  row_device_or_slot = one_check refusal.BadDeviceOrSlot 7 (λ s. says (is_bad_device_or_slot s) (said_at file at)) (λ e. cc) (omega arith) (λ s. refl) (λ s. refl)

  -- 6: "vendor 0xffff"
  pub row_vendor : RefusedHere l file at refusal.AbsentVendor ↔ RowAt l file at 8 (λ s. says is_absent_vendor (said_at file at))
  unfolding any_below
  row_vendor = one_check refusal.AbsentVendor 8 (λ s. says is_absent_vendor (said_at file at)) (λ e. cc) (omega arith) (λ s. refl) (λ s. refl)

  -- 7: "size below 16, not a power of two, or above 4 GiB"
  pub row_size : RefusedHere l file at refusal.BadSize ↔ RowAt l file at 9 (λ s. says is_bad_size (said_at file at))
  unfolding any_below
  row_size = one_check refusal.BadSize 9 (λ s. says is_bad_size (said_at file at)) (λ e. cc) (omega arith) (λ s. refl) (λ s. refl)

  -- 8: "not start < end, or end above 4 GiB"
  pub row_aperture : RefusedHere l file at refusal.BadAperture ↔ RowAt l file at 10 (λ s. says is_bad_aperture (said_at file at))
  unfolding any_below
  row_aperture = one_check refusal.BadAperture 10 (λ s. says is_bad_aperture (said_at file at)) (λ e. cc) (omega arith) (λ s. refl) (λ s. refl)

  -- 10: "capability body above 253 bytes"
  pub row_long : RefusedHere l file at refusal.LongBody ↔ RowAt l file at 2 (λ s. body_too_long file at)
  unfolding any_below
  row_long = one_check refusal.LongBody 2 (λ s. body_too_long file at) (λ e. cc) (omega arith) (λ s. refl) (λ s. refl)

  -- 11: "effect empty, starts before 2, ends after its capability, overlaps an earlier one there, or covers a byte with mask not zero"
  pub row_effect : RefusedHere l file at refusal.BadEffect ↔ RowAt l file at 11 (λ s. says (is_bad_effect s) (said_at file at))
  unfolding any_below
  row_effect = one_check refusal.BadEffect 11 (λ s. says (is_bad_effect s) (said_at file at)) (λ e. cc) (omega arith) (λ s. refl) (λ s. refl)

  -- 9, 12, 13: after the whole file, at the first function with a fault and at its first
  pub row_fault : (n : Refusal) (device index : ℕ) → (declared_by l file ≡ refused_with n (place.Index device index)) ↔ FaultyAt l file n device index
  row_fault n device index = (at_faulty l file n device index, faulty_at l file n device index)
