-- `copy_of` has copied k bytes after k turns.
use mathlib.Core.Path.{◌≡◌}
use lib.ListN.{get_or}
use Rattle.word.specs.Table.{filled}
use Rattle.capability.specs.Size.{body_most}
use Rattle.capability.proofs.snapshot.copy_of.Given as goal

abbrev pub invariant-loop-k : goal.invariant-loop-k
invariant-loop-k l = l.copy ≡ filled body_most l.k (λ j. get_or l.bytes j 0) 0
