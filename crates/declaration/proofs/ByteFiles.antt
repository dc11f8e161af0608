-- A file whose numbers are all below 256 is one of bytes: for a file that is written out, the test computes.
use Prim.Native.Nat.{ℕ, ◌<◌, ◌≤◌}
use mathlib.Core.Bool.{true}
use mathlib.Core.List.{List}
use mathlib.Core.Logic.{⊎_elim}
use mathlib.Core.Path.{◌≡◌}
use native.Mathlib.Omega.{arith}
use borrow.Author.Tests.{ltb-true}
use lib.Dec.{ltb}
use lib.ListN.{length, get_or, get_or-eq_default}
use Rattle.word.specs.Search.{all_below}
use Rattle.word.proofs.Searches.{all_each}
use Rattle.word.proofs.Tests.{below_or_not}
use Rattle.declaration.specs.Good.{Bytes}

pub all_bytes : (file : List ℕ) → all_below (λ k. ltb (get_or file k 0) 256) (length file) ≡ true → Bytes file
all_bytes file e k =
    ⊎_elim (λ (h : k < length file). ltb-true (get_or file k 0) 256 (all_each (λ k. ltb (get_or file k 0) 256) (length file) e k h))
    (λ (h : length file ≤ k). rw (get_or-eq_default file 0 {n = k} h) (omega arith))
    (below_or_not k (length file))
