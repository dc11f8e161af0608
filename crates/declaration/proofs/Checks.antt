-- Checks in their order: the refusal is that of the first that fails, and there is none exactly if none does.
use Prim.Native.Nat.{ℕ, zero, suc, ◌<◌}
use mathlib.Core.Bool.{Bool, true, false}
use mathlib.Core.List.{List, [], ◌∷◌, ◌++◌}
use mathlib.Core.Logic.{◌⊎◌, inl, inr}
use mathlib.Core.Path.{◌≡◌, refl}
use native.Mathlib.Omega.{arith}
use lib.ListN.{length}
use Rattle.std.specs.Prelude.{Option, Some, None}
use Rattle.refusal.specs.declared.refusal.Refusal.{Refusal}
use Rattle.declaration.specs.Check.{Check, ◌when◌, first_failing}
use Rattle.declaration.specs.Exactly.{refusal_in, fails_at, check_at, FirstFails, NoneFails}

pub some_or_none : {A : Type 0} (o : Option A) → ((a : A) × (o ≡ Some a)) ⊎ (o ≡ None)
some_or_none None = inr refl
some_or_none (Some a) = inl (a, refl)

-- what is shown of a list's first check and of the others
below_suc : (P : ℕ → Type 0) (n : ℕ) → P 0 → ((k : ℕ) → k < n → P (suc k)) → (k : ℕ) → k < suc n → P k
below_suc P n p h zero l = p
below_suc P n p h (suc k) l = h k (omega arith)

none_tail : (c : Check) (cs : List Check) → NoneFails (c ∷ cs) → NoneFails cs
none_tail c cs h k l = h (suc k) (omega arith)

pub none_fails : (cs : List Check) → NoneFails cs → first_failing cs ≡ None
none_fails [] h = refl
none_fails ((r when t) ∷ cs) h = let e : t ≡ false = h 0 (omega arith) in rw e (none_fails cs (none_tail (r when t) cs h))

-- the first that fails gives its refusal
first_at : (cs : List Check) (r : Refusal) (i : ℕ) → i < length cs → fails_at (check_at cs i) ≡ true → refusal_in (check_at cs i) ≡ r → ((k : ℕ) → k < i → fails_at (check_at cs k) ≡ false) → first_failing cs ≡ Some r
first_at [] r i l e q b = absurd (omega arith)
first_at ((m when t) ∷ cs) r zero l e q b = rw (e, q)
first_at ((m when t) ∷ cs) r (suc i) l e q b = let f : t ≡ false = b 0 (omega arith) in rw f (first_at cs r i (omega arith) e q (λ k h. b (suc k) (omega arith)))

pub first_fails : (cs : List Check) (r : Refusal) → FirstFails cs r → first_failing cs ≡ Some r
first_fails cs r f = first_at cs r f.index f.below f.fails f.its f.before

one_later : (m r : Refusal) (t : Bool) (cs : List Check) → t ≡ false → FirstFails cs r → FirstFails ((m when t) ∷ cs) r
one_later m r t cs e f =
    record { index = suc f.index; below = omega (arith, f.below); fails = f.fails; its = f.its; before = below_suc (λ k. fails_at (check_at ((m when t) ∷ cs) k) ≡ false) f.index e f.before }

by_first : (m r : Refusal) (t : Bool) (cs : List Check) → (first_failing cs ≡ Some r → FirstFails cs r) → first_failing ((m when t) ∷ cs) ≡ Some r → FirstFails ((m when t) ∷ cs) r
by_first m r true cs h e = let q : m ≡ r = cc in record { index = 0; below = omega arith; fails = refl; its = q; before = λ k l. absurd (omega arith) }
by_first m r false cs h e = one_later m r false cs refl (h e)

-- a refusal is that of the first that fails
pub fails_first : (cs : List Check) (r : Refusal) → first_failing cs ≡ Some r → FirstFails cs r
fails_first [] r e = absurd (cc)
fails_first ((m when t) ∷ cs) r e = by_first m r t cs (fails_first cs r) e

none_by : (m : Refusal) (t : Bool) (cs : List Check) → (first_failing cs ≡ None → NoneFails cs) → first_failing ((m when t) ∷ cs) ≡ None → NoneFails ((m when t) ∷ cs)
none_by m true cs f e = absurd (cc)
none_by m false cs f e = below_suc (λ k. fails_at (check_at ((m when false) ∷ cs) k) ≡ false) (length cs) refl (f e)

pub fails_none : (cs : List Check) → first_failing cs ≡ None → NoneFails cs
fails_none [] e = λ k l. absurd (omega arith)
fails_none ((m when t) ∷ cs) e = none_by m t cs (fails_none cs) e

-- of two lists the second decides where no check of the first fails
pub fails_left : (a b : List Check) (r : Refusal) → first_failing a ≡ Some r → first_failing (a ++ b) ≡ Some r
fails_left [] b r e = absurd (cc)
fails_left ((m when true) ∷ a) b r e = e
fails_left ((m when false) ∷ a) b r e = fails_left a b r e

pub fails_right : (a b : List Check) → NoneFails a → first_failing (a ++ b) ≡ first_failing b
fails_right [] b h = refl
fails_right ((m when t) ∷ a) b h = let e : t ≡ false = h 0 (omega arith) in rw e (fails_right a b (none_tail (m when t) a h))
