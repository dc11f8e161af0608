-- The word from a place of a line on.
use Prim.Native.Nat.{ℕ, ◌-◌, ◌<◌, ◌≤◌}
use mathlib.Core.List.{List}
use mathlib.Core.Logic.{⊎_elim}
use mathlib.Core.Path.{◌≡◌}
use native.Mathlib.Omega.{arith}
use lib.ListN.{length, get_or, get_or-eq_default}
use Rattle.word.proofs.Tests.{below_or_not}
use Rattle.word.proofs.Searches.{least_is}
use Rattle.command.specs.Command.{space, word_length}

-- it ends in the line
pub word_inside : (line : List ℕ) (at : ℕ) → word_length line at ≤ length line - at
unfolding word_length
word_inside line at = (least_is _ _).most

-- a blank stands in the line
pub blank_inside : (line : List ℕ) (at : ℕ) → get_or line at 0 ≡ space → at < length line
blank_inside line at e =
    ⊎_elim (λ (h : at < length line). h) (λ (h : length line ≤ at).
    let past : get_or line at 0 ≡ 0 = get_or-eq_default line 0 {n = at} h in
    absurd (omega (arith, past, e)))
    (below_or_not at (length line))
