use mathlib.Core.Path.{sym, ◌∙◌}
use native.Mathlib.Omega.{arith}
use Rattle.bar.proofs.Sizes.{size_small, size_large, size_by_power}
use Rattle.bar.proofs.Powers.{power_lem}
use Rattle.bar.proofs.memory_bar.size_ok.Goals as goal

pub returns-then-size-lt-LEAST_SIZE : goal.returns-then-size-lt-LEAST_SIZE
returns-then-size-lt-LEAST_SIZE c = sym (size_small _ c.if-size-lt-LEAST_SIZE.true)

pub returns-then-size-gt-MOST_SIZE : goal.returns-then-size-gt-MOST_SIZE
returns-then-size-gt-MOST_SIZE c = sym (size_large _ c.if-size-gt-MOST_SIZE.true)

pub returns : goal.returns
returns c = c.is_power_of_two.ensures ∙ power_lem _ (omega arith) ∙ sym (size_by_power _ (omega arith) (omega arith))
