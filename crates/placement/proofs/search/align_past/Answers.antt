-- `align_past` aligns up the range's end; where that passes 64 bits, no multiple is left.
use native.Mathlib.Omega.{arith}
use Rattle.placement.proofs.Skips.{aligned_nothing}
use Rattle.placement.proofs.search.align_past.Goals as goal

pub returns-in_err-end : goal.returns-in_err-end
returns-in_err-end c = rw c.from_residual.ensures (aligned_nothing _ _ (λ b h k m. c.in_err-end.ensures (omega arith)))
