-- `align_up`: 0 is a multiple of every size; from any other number on std has the next one.
use native.Mathlib.Omega.{arith}
use Rattle.placement.proofs.Skips.{aligned_at, aligned_lem, zero_mod}
use Rattle.placement.proofs.search.align_up.Goals as goal

pub returns-then-from-eq0 : goal.returns-then-from-eq0
returns-then-from-eq0 c = rw c.if-from-eq0.true (aligned_at 0 c.args.size 0 (omega arith) (omega arith) (zero_mod c.args.size) (λ b h k m. omega arith))

pub returns : goal.returns
returns c = aligned_lem c.args.from c.args.size _ (omega arith) c.if-from-eq0.false c.checked_next_multiple_of.ensures
