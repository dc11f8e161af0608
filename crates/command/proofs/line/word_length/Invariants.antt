-- `word_length` at n has seen that no byte of the word before n is a blank.
use Prim.Native.Nat.{ℕ, ◌+◌}
use mathlib.Core.Bool.{Bool, false}
use mathlib.Core.List.{List}
use mathlib.Core.Path.{◌≡◌}
use lib.Dec.{eqb}
use lib.ListN.{get_or}
use Rattle.word.specs.Search.{any_below}
use Rattle.command.specs.Command.{space}
use Rattle.command.proofs.line.word_length.Given as goal

-- whether the byte so far from a place is a blank
abbrev pub blank_at : List ℕ → ℕ → ℕ → Bool
blank_at line at k = eqb (get_or line (at + k) 0) space

abbrev pub invariant-loop-n : goal.invariant-loop-n
invariant-loop-n l = any_below (blank_at l.line l.at) l.n ≡ false
