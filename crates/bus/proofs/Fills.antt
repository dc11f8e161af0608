-- A list filled up to a count that its length cuts.
use Prim.Native.Nat.{ℕ, min}
use mathlib.Core.Bool.{cond}
use mathlib.Core.Path.{◌≡◌}
use native.Mathlib.Omega.{arith}
use lib.Dec.{ltb}
use Rattle.word.specs.Table.{filled}
use Rattle.word.proofs.Tables.{table_ext}
use Rattle.word.proofs.Tests.{ltb_same}

-- no more than the list's length is filled, so a larger count fills the same
pub filled_cut : {A : Type 0} (n m : ℕ) (f : ℕ → A) (blank : A) → filled n (min m n) f blank ≡ filled n m f blank
unfolding filled
filled_cut n m f blank =
    table_ext n (λ k. cond (ltb k (min m n)) (f k) blank) (λ k. cond (ltb k m) (f k) blank)
    (λ k h. rw (ltb_same k (min m n) k m (λ a. omega arith) (λ a. omega arith)))
