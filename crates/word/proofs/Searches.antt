-- Questions below a number: what some answer and what all answer, and the first that does, of which there is one.
use Prim.Native.Nat.{ℕ, zero, suc, ◌+◌, ◌<◌, ◌≤◌}
use mathlib.Core.Bool.{Bool, true, false, cond, or-true}
use mathlib.Core.Logic.{◌⊎◌, inl, inr, ⊎_elim}
use mathlib.Core.Path.{◌≡◌, refl, sym, ◌∙◌}
use native.Mathlib.Nat.{eq-or-lt_of_le}
use native.Mathlib.Numerals.{add-one}
use native.Mathlib.Omega.{arith}
use borrow.Author.Tests.{lt-ltb, le-ltb}
use Rattle.word.specs.Search.{any_below, all_below, first_below, first_of}
use Rattle.word.proofs.Tests.{below_or_not, both, never, and_left, and_right, or_cases}

module _ (p : ℕ → Bool) where
  pub any_none : any_below p 0 ≡ false
  unfolding any_below
  any_none = refl

  pub any_more : (i : ℕ) → any_below p i ≡ false → p i ≡ false → any_below p (i + 1) ≡ false
  unfolding any_below
  any_more i d e = rw (add-one, d, e)

  pub any_found : (i n : ℕ) → i < n → p i ≡ true → any_below p n ≡ true
  unfolding any_below
  any_found i zero h e = absurd (omega arith)
  any_found i (suc n) h e = ⊎_elim (λ q. rw (← q, e, or-true)) (λ l. rw (any_found i n l e)) (eq-or-lt_of_le {n = i} {m = n} (omega arith))

  -- where some index answers, there is one
  pub any_has_lem : (n : ℕ) → any_below p n ≡ true → (i : ℕ) × (i < n) × (p i ≡ true)
  unfolding any_below
  any_has_lem zero e = absurd (both e refl)
  any_has_lem (suc n) e = ⊎_elim (λ a. let r = any_has_lem n a in (r.0, omega arith, r.2)) (λ a. (n, omega arith, a)) (or_cases (any_below p n) (p n) e)

  -- and where none does, each says no
  pub any_never : (n : ℕ) → any_below p n ≡ false → (k : ℕ) → k < n → p k ≡ false
  any_never n e k h = never (p k) (λ t. both (any_found k n h t) e)

  pub never_any : (n : ℕ) → ((k : ℕ) → k < n → p k ≡ false) → any_below p n ≡ false
  never_any n h = never (any_below p n) (λ t. let r = any_has_lem n t in both r.2 (h r.0 r.1))

  -- what all do, each does, and the other way
  pub all_each : (n : ℕ) → all_below p n ≡ true → (k : ℕ) → k < n → p k ≡ true
  unfolding all_below
  all_each zero e k h = absurd (omega arith)
  all_each (suc n) e k h =
      ⊎_elim (λ (q : k ≡ n). rw q (and_right (all_below p n) (p n) e)) (λ (l : k < n). all_each n (and_left (all_below p n) (p n) e) k l) (eq-or-lt_of_le {n = k} {m = n} (omega arith))

  pub each_all : (n : ℕ) → ((k : ℕ) → k < n → p k ≡ true) → all_below p n ≡ true
  unfolding all_below
  each_all zero h = refl
  each_all (suc n) h = rw (each_all n (λ k l. h k (omega arith)), h n (omega arith))

-- m is the first number below n of which p holds, or n where there is none
pub record Least (p : ℕ → Bool) (n m : ℕ) : Type 0 where
  pub most : m ≤ n
  pub holds : m < n → p m ≡ true
  pub none : (k : ℕ) → k < m → p k ≡ false

shifted : (p : ℕ → Bool) (n : ℕ) → p 0 ≡ false → ((k : ℕ) → k < n → p (suc k) ≡ false) → (k : ℕ) → k < suc n → p k ≡ false
shifted p n e h zero l = e
shifted p n e h (suc k) l = h k (omega arith)

by_first : (p : ℕ → Bool) (n m : ℕ) (t : Bool) → p 0 ≡ t → Least (λ k. p (suc k)) n m → Least p (suc n) (cond t zero (suc m))
by_first p n m true e l = record { most = omega arith; holds = λ h. e; none = λ k h. absurd (omega arith) }
by_first p n m false e l = record { most = omega (arith, l.most); holds = λ h. l.holds (omega arith); none = shifted p m e l.none }

pub least_is : (p : ℕ → Bool) (n : ℕ) → Least p n (first_below p n)
unfolding first_below
least_is p zero = record { most = omega arith; holds = λ h. absurd (omega arith); none = λ k h. absurd (omega arith) }
least_is p (suc n) = by_first p n (first_below (λ k. p (suc k)) n) (p 0) refl (least_is (λ k. p (suc k)) n)

module _ (p : ℕ → Bool) where
  not_below : (n m o : ℕ) → Least p n m → Least p n o → m < o → ⊥
  not_below n m o a b h = both (a.holds (omega (arith, b.most))) (b.none m h)

  -- there is only one
  pub least_unique : (n m o : ℕ) → Least p n m → Least p n o → m ≡ o
  least_unique n m o a b =
      ⊎_elim (λ (h : m < o). absurd (not_below n m o a b h)) (λ (h : o ≤ m). ⊎_elim (λ (k : o < m). absurd (not_below n o m b a k)) (λ k. omega arith) (below_or_not o m)) (below_or_not m o)

  -- so it is found where it is shown, or is n where none is
  pub least_at : (n a : ℕ) → a < n → p a ≡ true → ((b : ℕ) → b < a → p b ≡ false) → first_below p n ≡ a
  least_at n a h e f = least_unique n (first_below p n) a (least_is p n) (record { most = omega arith; holds = λ l. e; none = f })

  pub least_none : (n : ℕ) → ((b : ℕ) → b < n → p b ≡ false) → first_below p n ≡ n
  least_none n f = least_unique n (first_below p n) n (least_is p n) (record { most = omega arith; holds = λ l. absurd (omega arith); none = f })

-- i is the first below n, and there is one
pub record First (p : ℕ → Bool) (n i : ℕ) : Type 0 where
  pub below : i < n
  pub before : (k : ℕ) → k < i → p k ≡ false
  pub here : p i ≡ true

-- there is a first one, or none at all
pub first_or_none : (p : ℕ → Bool) (n : ℕ) → ((i : ℕ) × First p n i) ⊎ ((k : ℕ) → k < n → p k ≡ false)
first_or_none p n =
    let m = first_below p n in
    let l = least_is p n in
    ⊎_elim (λ (h : m < n). inl (m, record { below = h; before = l.none; here = l.holds h })) (λ (h : n ≤ m). inr (λ k q. l.none k (omega arith))) (below_or_not m n)

module _ {A : Type 0} (found : ℕ → A) (none : A) where
  pub first_is : (p : ℕ → Bool) (n i : ℕ) → First p n i → first_of found none p n ≡ found i
  unfolding first_of
  first_is p n i f = rw (least_at p n i f.below f.here f.before, lt-ltb i n f.below)

  pub first_none : (p : ℕ → Bool) (n : ℕ) → ((k : ℕ) → k < n → p k ≡ false) → first_of found none p n ≡ none
  unfolding first_of
  first_none p n h = rw (least_none p n h, le-ltb n n (omega arith))

  -- two tests that agree below n find the same
  pub first_same : (p q : ℕ → Bool) (n : ℕ) → ((k : ℕ) → k < n → p k ≡ q k) → first_of found none p n ≡ first_of found none q n
  first_same p q n h =
      ⊎_elim (λ r. first_is p n r.0 r.1 ∙ sym (first_is q n r.0 (record { below = r.1.below; before = λ k l. rw (← h k (omega (arith, r.1.below))) (r.1.before k l); here = rw (← h r.0 r.1.below) r.1.here })))
      (λ f. first_none p n f ∙ sym (first_none q n (λ k l. rw (← h k l) (f k l))))
      (first_or_none p n)

-- what a search found tells where it stopped, for a `found` that tells indexes apart
module _ {A : Type 0} (found : ℕ → A) (none : A) (one : (a b : ℕ) → found a ≡ found b → a ≡ b) (other : (a : ℕ) → found a ≡ none → ⊥) (p : ℕ → Bool) (n : ℕ) where
  pub found_first : (i : ℕ) → first_of found none p n ≡ found i → First p n i
  found_first i e =
      ⊎_elim (λ r. rw (one r.0 i (sym (first_is found none p n r.0 r.1) ∙ e)) at r.1)
      (λ h. absurd (other i (sym e ∙ first_none found none p n h)))
      (first_or_none p n)

  pub none_never : first_of found none p n ≡ none → (k : ℕ) → k < n → p k ≡ false
  none_never e =
      ⊎_elim (λ r. absurd (other r.0 (sym (first_is found none p n r.0 r.1) ∙ e))) (λ h. h) (first_or_none p n)
