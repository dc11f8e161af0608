-- `opened_at`: below k the list is open at the place, and from k on as it was.
use mathlib.Core.Path.{◌≡◌}
use Rattle.declaration.specs.Blank.{no_function}
use Rattle.declaration.proofs.Openings.{opened_below}
use Rattle.declaration.proofs.finished.opened_at.Given as goal

abbrev pub invariant-loop-k : goal.invariant-loop-k
invariant-loop-k l = l.out ≡ opened_below no_function l.functions l.place l.fn.function l.k
