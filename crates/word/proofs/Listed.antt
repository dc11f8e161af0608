-- The library's `any` and `find`, over a list, a range from 0 and the front of a list, as the searches of `Search`.
use Prim.Native.Nat.{ℕ, zero, suc, ◌+◌, ◌<◌, ◌≤◌}
use mathlib.Core.Bool.{Bool, true, false, or-true}
use mathlib.Core.List.{List, [], ◌∷◌}
use mathlib.Core.Logic.{⊎_elim}
use mathlib.Core.Path.{◌≡◌, refl, sym, ap, ◌∙◌}
use native.Mathlib.Omega.{arith}
use lib.ListN.{length, get_or, take, length-take}
use lib.Seq.{get_or-take}
use Rattle.std.proofs.Common.{Some, None}
use Rattle.std.specs.List.{list_any, find, range_with_len}
use Rattle.std.proofs.lemmas.List.FromFn.{length-range_with_len, get_or-range_with_len}
use Rattle.word.specs.Search.{any_below, first_of}
use Rattle.word.proofs.Tests.{both, or_cases, same_test}
use Rattle.word.proofs.Searches.{First, any_found, any_has_lem, first_or_none, first_is, first_none, found_first, none_never}

module _ {A : Type 0} (test : A → Bool) (d : A) where
  any_at : (l : List A) (i : ℕ) → i < length l → test (get_or l i d) ≡ true → list_any test l ≡ true
  any_at [] i h e = absurd (omega arith)
  any_at (x ∷ xs) zero h e = rw e
  any_at (x ∷ xs) (suc i) h e = rw (any_at xs i (omega arith) e, or-true (test x))

  at_any : (l : List A) → list_any test l ≡ true → (i : ℕ) × (i < length l) × (test (get_or l i d) ≡ true)
  at_any [] e = absurd (both e refl)
  at_any (x ∷ xs) e = ⊎_elim (λ t. (0, omega arith, t)) (λ t. let r = at_any xs t in (suc r.0, omega (arith, r.1), r.2)) (or_cases (test x) (list_any test xs) e)

  find_at : (l : List A) (i : ℕ) → First (λ k. test (get_or l k d)) (length l) i → find test l ≡ Some (get_or l i d)
  find_at [] i f = absurd (omega (arith, f.below))
  find_at (x ∷ xs) zero f = rw f.here
  find_at (x ∷ xs) (suc i) f =
      rw (f.before 0 (omega arith)) (find_at xs i (record { below = omega (arith, f.below); before = λ k h. f.before (suc k) (omega arith); here = f.here }))

  find_nothing : (l : List A) → ((k : ℕ) → k < length l → test (get_or l k d) ≡ false) → find test l ≡ None
  find_nothing [] h = refl
  find_nothing (x ∷ xs) h = rw (h 0 (omega arith)) (find_nothing xs (λ k m. h (suc k) (omega arith)))

  -- one of the first n answers
  pub any_taken : (l : List A) (n : ℕ) → n ≤ length l → list_any test (take n l) ≡ any_below (λ i. test (get_or l i d)) n
  any_taken l n h =
      same_test (list_any test (take n l)) (any_below (λ i. test (get_or l i d)) n)
      (λ e. let r = at_any (take n l) e in
      let b : r.0 < n = omega (arith, r.1, length-take n l) in
      any_found (λ i. test (get_or l i d)) r.0 n b (ap test (sym (get_or-take n l r.0 d b)) ∙ r.2))
      (λ e. let r = any_has_lem (λ i. test (get_or l i d)) n e in
      any_at (take n l) r.0 (omega (arith, r.1, length-take n l)) (ap test (get_or-take n l r.0 d r.1) ∙ r.2))

module _ (test : ℕ → Bool) (n : ℕ) where
  range_at : (i : ℕ) → i < n → get_or (range_with_len 0 n) i 0 ≡ i
  range_at i h = omega (arith, get_or-range_with_len 0 n i 0 h)

  at_range : (i : ℕ) → i < n → test (get_or (range_with_len 0 n) i 0) ≡ test i
  at_range i h = ap test (range_at i h)

  -- a number below n answers
  pub any_range : list_any test (range_with_len 0 n) ≡ any_below test n
  any_range =
      same_test (list_any test (range_with_len 0 n)) (any_below test n)
      (λ e. let r = at_any test 0 (range_with_len 0 n) e in
      let b : r.0 < n = omega (arith, r.1, length-range_with_len 0 n) in
      any_found test r.0 n b (sym (at_range r.0 b) ∙ r.2))
      (λ e. let r = any_has_lem test n e in
      any_at test 0 (range_with_len 0 n) r.0 (omega (arith, r.1, length-range_with_len 0 n)) (at_range r.0 r.1 ∙ r.2))

  -- and the first that does
  pub find_range : find test (range_with_len 0 n) ≡ first_of Some None test n
  find_range =
      ⊎_elim
      (λ r. find_at test 0 (range_with_len 0 n) r.0
      (record { below = omega (arith, r.1.below, length-range_with_len 0 n); before = λ k h. at_range k (omega (arith, r.1.below)) ∙ r.1.before k h; here = at_range r.0 r.1.below ∙ r.1.here }) ∙
      ap Some (range_at r.0 r.1.below) ∙ sym (first_is Some None test n r.0 r.1))
      (λ f. find_nothing test 0 (range_with_len 0 n) (λ k h. let b : k < n = omega (arith, length-range_with_len 0 n) in at_range k b ∙ f k b) ∙ sym (first_none Some None test n f))
      (first_or_none test n)

-- what a search for an index found tells where it stopped
module _ (p : ℕ → Bool) (n : ℕ) where
  same_index : (a b : ℕ) → Some a ≡ Some b → a ≡ b
  same_index a b e = cc

  no_index : (a : ℕ) → Some a ≡ None → ⊥
  no_index a e = let z : ◌≡◌ {A = ℕ} 0 1 = cc in omega arith

  pub some_first : (i : ℕ) → first_of Some None p n ≡ Some i → First p n i
  some_first = found_first Some None same_index no_index p n

  pub none_first : first_of Some None p n ≡ None → (k : ℕ) → k < n → p k ≡ false
  none_first = none_never Some None same_index no_index p n
