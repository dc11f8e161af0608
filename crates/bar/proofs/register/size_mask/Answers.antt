-- `size_mask` subtracts where it can.
use native.Mathlib.Omega.{arith}
use Rattle.bar.specs.Register.{size_mask}
use Rattle.bar.proofs.register.size_mask.Goals as goal

pub returns-then-size-gt-FOUR_GIB : goal.returns-then-size-gt-FOUR_GIB
unfolding size_mask
returns-then-size-gt-FOUR_GIB c = omega arith

pub returns : goal.returns
unfolding size_mask
returns c = omega arith
