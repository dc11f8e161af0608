-- The reading ends: a field is at least three bytes long, so after as many steps as the file has bytes it goes on no more.
use Prim.Native.Nat.{ℕ, zero, suc, ◌<◌, ◌≤◌}
use mathlib.Core.Bool.{true, false}
use mathlib.Core.List.{List}
use mathlib.Core.Logic.{⊎_elim}
use mathlib.Core.Path.{◌≡◌, refl, sym, ap, ◌∙◌}
use native.Mathlib.Omega.{arith}
use borrow.Author.Tests.{ltb-true}
use lib.Dec.{ltb}
use lib.ListN.{length}
use Rattle.std.specs.Prelude.{Option, Some, None, is_none}
use Rattle.refusal.specs.declared.refusal.Refusal.{Refusal}
use Rattle.word.proofs.Tests.{true_or_false, below_or_not, both, never, and_left, and_right}
use Rattle.address.specs.Limits.{Limits}
use Rattle.declaration.specs.Check.{first_failing}
use Rattle.declaration.specs.Exactly.{FirstFails, NoneFails, all_checks, now_after}
use Rattle.declaration.specs.Frame.{field_end}
use Rattle.declaration.specs.Reading.{stopped_with, gone_on, goes, read_field, read_fields, fields_of}
use Rattle.declaration.specs.declared.reading.Reading.{Reading}
use Rattle.declaration.proofs.Checks.{some_or_none, fails_first, fails_none}
use Rattle.declaration.proofs.Steps.{step_refused, step_taken, step_none}

-- what a step does: it stops at the first check that fails, or goes on
pub by_step : (l : Limits) (file : List ℕ) (r : Reading) (P : Reading → Type 0) → (goes file r ≡ false → P r) → ((x : Refusal) → goes file r ≡ true → FirstFails (all_checks l file r.at r.now) x → P (stopped_with r x)) → (goes file r ≡ true → NoneFails (all_checks l file r.at r.now) → P (gone_on r (field_end file r.at) (now_after file r.at r.now))) → P (read_field l file r)
by_step l file r P stays stops takes =
    let cs = all_checks l file r.at r.now in
    ⊎_elim
    (λ (g : goes file r ≡ true).
    ⊎_elim (λ (q : (x : Refusal) × (first_failing cs ≡ Some x)). let f = fails_first cs q.0 q.1 in rw (step_refused l file r q.0 g f) (stops q.0 g f))
    (λ (q : first_failing cs ≡ None). let none = fails_none cs q in rw (step_taken l file r g none) (takes g none))
    (some_or_none (first_failing cs)))
    (λ (g : goes file r ≡ false). rw (step_none l file r g) (stays g))
    (true_or_false (goes file r))

-- a reading that is refused goes on no more
pub refused_stays : (file : List ℕ) (r : Reading) (x : Refusal) → r.refusal ≡ Some x → goes file r ≡ false
refused_stays file r x h = rw h

none_is : (o : Option Refusal) → is_none o ≡ true → o ≡ None
none_is None e = refl
none_is (Some x) e = absurd (both e refl)

pub goes_accepted : (file : List ℕ) (r : Reading) → goes file r ≡ true → r.refusal ≡ None
goes_accepted file r g = none_is r.refusal (and_left (is_none r.refusal) (ltb r.at (length file)) g)

pub goes_inside : (file : List ℕ) (r : Reading) → goes file r ≡ true → r.at < length file
goes_inside file r g = ltb-true r.at (length file) (and_right (is_none r.refusal) (ltb r.at (length file)) g)

module _ (l : Limits) (file : List ℕ) where
  -- each step that leaves a reading going moved it by a field
  pub moves : (n : ℕ) → goes file (read_fields l file n) ≡ true → n ≤ (read_fields l file n).at
  unfolding read_fields
  moves zero e = omega arith
  moves (suc n) e =
      let r = read_fields l file n in
      by_step l file r (λ t. goes file t ≡ true → suc n ≤ t.at) (λ s g. absurd (both g s))
      (λ x g f h. absurd (both h (refused_stays file (stopped_with r x) x refl)))
      (λ g none h. let m = moves n g in omega arith)
      e

  pub fields_end : goes file (fields_of l file) ≡ false
  fields_end = never (goes file (fields_of l file)) (λ g. omega (arith, moves (length file) g, goes_inside file (fields_of l file) g))

  -- one step more
  pub fields_more : (n : ℕ) → read_fields l file (suc n) ≡ read_field l file (read_fields l file n)
  unfolding read_fields
  fields_more n = refl

  -- and what goes on no more stays as it is
  pub stays : (n m : ℕ) → n ≤ m → goes file (read_fields l file n) ≡ false → read_fields l file m ≡ read_fields l file n
  stays n zero h g = let z : 0 ≡ n = omega arith in ap (read_fields l file) z
  stays n (suc m) h g =
      ⊎_elim (λ (k : n < suc m). fields_more m ∙ ap (read_field l file) (stays n m (omega arith) g) ∙ step_none l file (read_fields l file n) g)
      (λ (k : suc m ≤ n). let z : suc m ≡ n = omega arith in ap (read_fields l file) z)
      (below_or_not n (suc m))

  pub fields_all : (n : ℕ) → goes file (read_fields l file n) ≡ false → read_fields l file n ≡ fields_of l file
  fields_all n g =
      ⊎_elim (λ (h : n < length file). sym (stays n (length file) (omega arith) g)) (λ (h : length file ≤ n). stays (length file) n h fields_end) (below_or_not n (length file))
