-- How much of a line is shown.
use Prim.Native.Nat.{ℕ, ◌≤◌}
use mathlib.Core.List.{List}
use native.Mathlib.Omega.{arith}
use lib.ListN.{length, length-take}
use Rattle.word.specs.Number.{part_of}

-- a part is no longer than asked
pub part_short : (bytes : List ℕ) (o w : ℕ) → length (part_of bytes o w) ≤ w
part_short bytes o w = simp length-take (omega arith)
