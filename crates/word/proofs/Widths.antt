-- What is known of an access width.
use Prim.Native.Nat.{ℕ, ◌<◌, ◌≤◌}
use mathlib.Core.Bool.{true, ◌||◌}
use mathlib.Core.Logic.{⊎_elim}
use mathlib.Core.Path.{◌≡◌}
use lib.Dec.{eqb, leb}
use borrow.Author.Tests.{eqb-true, leb-true}
use native.Mathlib.Omega.{arith}
use Rattle.word.specs.Width.{width_ok}
use Rattle.word.proofs.Tests.{and_left, and_right, or_cases}

-- a width is at most the widest
pub width_most : (most w : ℕ) → width_ok most w ≡ true → w ≤ most
unfolding width_ok
width_most most w h = leb-true w most (and_left (leb w most) _ h)

-- the only way to use a width: at each of the four
pub by_width : (P : ℕ → Type 0) → P 1 → P 2 → P 4 → P 8 → (most w : ℕ) → width_ok most w ≡ true → P w
unfolding width_ok
by_width P p1 p2 p4 p8 most w h =
    ⊎_elim (λ a. rw (eqb-true w 1 a) p1)
    (λ b. ⊎_elim (λ a. rw (eqb-true w 2 a) p2)
    (λ c. ⊎_elim (λ a. rw (eqb-true w 4 a) p4) (λ a. rw (eqb-true w 8 a) p8) (or_cases (eqb w 4) (eqb w 8) c))
    (or_cases (eqb w 2) (eqb w 4 || eqb w 8) b))
    (or_cases (eqb w 1) (eqb w 2 || (eqb w 4 || eqb w 8)) (and_right (leb w most) _ h))

-- a width that is allowed is not 0
pub width_pos : (most w : ℕ) → width_ok most w ≡ true → 0 < w
width_pos most w h = by_width (λ w. 0 < w) (omega arith) (omega arith) (omega arith) (omega arith) most w h
