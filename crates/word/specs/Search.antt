-- Questions put to the numbers below n: whether some one answers, whether every one does, and which is the first.
use Rattle.std.specs.Prelude.{ℕ, zero, suc, Bool, true, false, ◌&&◌, ◌||◌, cond, ltb}

-- whether p holds of a number below n
unfoldable pub any_below : (ℕ → Bool) → ℕ → Bool
any_below p zero = false
any_below p (suc n) = any_below p n || p n

-- whether p holds of every number below n
unfoldable pub all_below : (ℕ → Bool) → ℕ → Bool
all_below p zero = true
all_below p (suc n) = all_below p n && p n

-- the first number below n of which p holds, or n where there is none
unfoldable pub first_below : (ℕ → Bool) → ℕ → ℕ
first_below p zero = zero
first_below p (suc n) = cond (p zero) zero (suc (first_below (λ k. p (suc k)) n))

-- what `found` says of it, or `none` where there is none
unfoldable pub first_of : {A : Type 0} → (ℕ → A) → A → (ℕ → Bool) → ℕ → A
first_of found none p n = cond (ltb (first_below p n) n) (found (first_below p n)) none
