-- How the search goes on without passing a place: the next multiple, and the end of a range that is met.
use Prim.Native.Nat.{ℕ, zero, suc, ◌+◌, ◌-◌, ◌%◌, ◌^◌, ◌<◌, ◌≤◌}
use mathlib.Core.Bool.{Bool, true, false, cond}
use mathlib.Core.List.{List, [], ◌∷◌}
use mathlib.Core.Logic.{⊎_elim}
use mathlib.Core.Path.{◌≡◌, refl, sym, ap, subst, ◌∙◌}
use native.Mathlib.Nat.{mod_self, mod-add-mod, mod-eq_of_lt, mod-lt, mod-zero}
use native.Mathlib.Omega.{arith}
use borrow.Author.Tests.{le-leb, leb-true}
use lib.Dec.{leb}
use lib.ListN.{length, get_or}
use Rattle.word.proofs.Tests.{below_or_not, never, and_left, and_right}
use Rattle.bar.specs.Range.{range, multiple, meets}
use Rattle.bar.specs.declared.range.Range.{Range}
use Rattle.bar.proofs.Ranges.{multiple_zero, zero_multiple}
use Rattle.placement.specs.Place.{no_range, meets_any}
use Rattle.placement.specs.Skip.{multiple_from, aligned_from, Clash}
use Rattle.std.specs.Prelude.{Option, Some, None, SomeIff}
use Rattle.std.specs.Int.{next_multiple_of}
use Rattle.std.specs.List.{find}
use Rattle.placement.proofs.Fits.{LeastIn, fit_least, fit_unique}
use Rattle.placement.proofs.Places.{met_any, free_any}

-- a multiple from a number on
pub is_multiple_from : (from size a : ℕ) → from ≤ a → multiple (range a size) ≡ true → multiple_from from size a ≡ true
unfolding multiple_from
is_multiple_from from size a h e = rw (le-leb from a h) e

pub multiple_from_le : (from size a : ℕ) → multiple_from from size a ≡ true → from ≤ a
unfolding multiple_from
multiple_from_le from size a e = leb-true from a (and_left (leb from a) (multiple (range a size)) e)

pub multiple_from_multiple : (from size a : ℕ) → multiple_from from size a ≡ true → multiple (range a size) ≡ true
unfolding multiple_from
multiple_from_multiple from size a e = and_right (leb from a) (multiple (range a size)) e

no_multiple_from : (from size a : ℕ) → (from ≤ a → a % size ≡ 0 → ⊥) → multiple_from from size a ≡ false
no_multiple_from from size a h = never (multiple_from from size a) (λ t. h (multiple_from_le from size a t) (multiple_zero (range a size) (multiple_from_multiple from size a t)))

-- the answer is the least such number of 64 bits
pub aligned_is : (from size : ℕ) (next : Option ℕ) → next ≡ aligned_from from size → LeastIn (multiple_from from size) (2 ^ 64) next
unfolding aligned_from
aligned_is from size next e = subst (λ (f : Option ℕ). LeastIn (multiple_from from size) (2 ^ 64) f) (sym e) (fit_least (multiple_from from size) (2 ^ 64))

is_least : (from size : ℕ) (next : Option ℕ) → LeastIn (multiple_from from size) (2 ^ 64) next → next ≡ aligned_from from size
is_least from size next l = fit_unique (multiple_from from size) (2 ^ 64) next (aligned_from from size) l (aligned_is from size (aligned_from from size) refl)

pub aligned_at : (from size a : ℕ) → from ≤ a → a < 2 ^ 64 → a % size ≡ 0 → ((b : ℕ) → from ≤ b → b < a → b % size ≡ 0 → ⊥) → Some a ≡ aligned_from from size
aligned_at from size a h l e f =
    is_least from size (Some a) (l, is_multiple_from from size a h (zero_multiple (range a size) e), λ b k. no_multiple_from from size b (λ m. f b m k))

pub aligned_nothing : (from size : ℕ) → ((b : ℕ) → from ≤ b → b < 2 ^ 64 → b % size ≡ 0 → ⊥) → None ≡ aligned_from from size
aligned_nothing from size f = is_least from size None (λ b k. no_multiple_from from size b (λ m. f b m k))

-- what is missing to the next multiple, and that none lies between
pub gap_multiple : (from size gap : ℕ) → from % size + gap ≡ size → (from + gap) % size ≡ 0
gap_multiple from size gap e = sym (mod-add-mod from size gap) ∙ ap (λ (n : ℕ). n % size) e ∙ mod_self size

pub gap_none : (from size gap b : ℕ) → from % size + gap ≡ size → 0 < from % size → from ≤ b → b < from + gap → b % size ≡ 0 → ⊥
gap_none from size gap b e z h l m =
    let d = b - from in
    let s : from + d ≡ b = omega arith in
    let n : (from % size + d) % size ≡ from % size + d = mod-eq_of_lt (omega arith) in
    let q : from % size + d ≡ 0 = sym n ∙ mod-add-mod from size d ∙ ap (λ (k : ℕ). k % size) s ∙ m in
    omega arith

pub zero_mod : (size : ℕ) → 0 % size ≡ 0
zero_mod size = ⊎_elim (λ (h : 0 < size). mod-eq_of_lt h) (λ (h : size ≤ 0). let z : size ≡ 0 = omega arith in rw z (mod-zero 0)) (below_or_not 0 size)

-- the least multiple from a number on, as std adds what is missing to it
module _ (from size : ℕ) (h : from < 2 ^ 64) (full : 0 < size) where
  over_zero : from % size ≡ 0 → next_multiple_of from size ≡ from
  over_zero e =
      let z : size - from % size ≡ size = omega arith in
      let m : (size - from % size) % size ≡ 0 = rw z (mod_self size) in
      omega arith

  over_some : 0 < from % size → (from % size + (size - from % size) ≡ size) × (next_multiple_of from size ≡ from + (size - from % size))
  over_some g =
      let l = mod-lt from {m = size} full in
      let m : (size - from % size) % size ≡ size - from % size = mod-eq_of_lt (omega arith) in
      (omega arith, omega arith)

  next_aligned : next_multiple_of from size < 2 ^ 64 → Some (next_multiple_of from size) ≡ aligned_from from size
  next_aligned l =
      ⊎_elim
      (λ (g : 0 < from % size).
      let s = over_some g in
      let gap = size - from % size in
      rw s.1 (aligned_at from size (from + gap) (omega arith) (omega (arith, l, s.1)) (gap_multiple from size gap s.0) (λ b k n. gap_none from size gap b s.0 g k n)))
      (λ (g : from % size ≤ 0).
      let e : from % size ≡ 0 = omega arith in
      rw (over_zero e) (aligned_at from size from (omega arith) h e (λ b k n m. omega arith)))
      (below_or_not 0 (from % size))

  none_aligned : (next_multiple_of from size < 2 ^ 64 → ⊥) → None ≡ aligned_from from size
  none_aligned f =
      ⊎_elim
      (λ (g : 0 < from % size).
      let s = over_some g in
      let gap = size - from % size in
      aligned_nothing from size (λ b k n m. ⊎_elim (λ (o : from + gap < 2 ^ 64). f (rw s.1 o)) (λ (o : 2 ^ 64 ≤ from + gap). gap_none from size gap b s.0 g k (omega arith) m) (below_or_not (from + gap) (2 ^ 64))))
      (λ (g : from % size ≤ 0). let e : from % size ≡ 0 = omega arith in absurd (f (rw (over_zero e) h)))
      (below_or_not 0 (from % size))

pub aligned_lem : (from size : ℕ) (r : Option ℕ) → from < 2 ^ 64 → (from ≡ 0 → ⊥) → SomeIff r ((0 < size) × (next_multiple_of from size < 2 ^ 64)) (next_multiple_of from size) → r ≡ aligned_from from size
aligned_lem from size (Some x) h z e = rw e.1 (next_aligned from size h e.0.0 e.0.1)
aligned_lem from size None h z e =
    ⊎_elim (λ (full : 0 < size). none_aligned from size h full (λ l. e (full, l)))
    (λ (o : size ≤ 0).
    let q : size ≡ 0 = omega arith in
    rw q (aligned_nothing from 0 (λ b k n m. let y : b ≡ 0 = sym (mod-zero b) ∙ m in z (omega arith))))
    (below_or_not 0 size)

-- the first of a list that is met is a clash
Met : Range → List Range → Option Range → Type 0
Met r l None = (i : ℕ) → i < length l → meets r (get_or l i no_range) ≡ false
Met r l (Some p) = (i : ℕ) × (i < length l) × (p ≡ get_or l i no_range) × (meets r p ≡ true)

module _ (r : Range) where
  met_more : (x : Range) (l : List Range) (o : Option Range) (t : Bool) → meets r x ≡ t → Met r l o → Met r (x ∷ l) (cond t (Some x) o)
  unfolding Met
  met_more x l o true e m = (0, omega arith, refl, e)
  met_more x l None false e m = λ i h. by_index i h
    where
      by_index : (i : ℕ) → i < length (x ∷ l) → meets r (get_or (x ∷ l) i no_range) ≡ false
      by_index zero h = e
      by_index (suc i) h = m i (omega arith)
  met_more x l (Some p) false e m = (suc m.0, omega (arith, m.1), m.2, m.3)

  find_met : (l : List Range) → Met r l (find (meets r) l)
  unfolding Met
  find_met [] = λ i h. absurd (omega arith)
  find_met (x ∷ l) = met_more x l (find (meets r) l) (meets r x) refl (find_met l)

  met_clash : (l : List Range) (o : Option Range) → Met r l o → Clash r l o
  unfolding Met
  met_clash l None m = free_any r l m
  met_clash l (Some p) m = m

  pub find_clash : (l : List Range) (o : Option Range) → o ≡ find (meets r) l → Clash r l o
  find_clash l o e = met_clash l o (subst (Met r l) (sym e) (find_met l))

  pub clash_met : (l : List Range) (p : Range) → Clash r l (Some p) → meets_any r l ≡ true
  clash_met l p k = met_any r l k.0 (rw (← k.2) k.3)
