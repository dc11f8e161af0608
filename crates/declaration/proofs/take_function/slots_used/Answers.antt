use mathlib.Core.Path.{sym, ◌∙◌}
use native.Mathlib.Omega.{arith}
use Rattle.address.specs.Layout.{bar_count}
use Rattle.declaration.proofs.Used.{all_none, all_more, all_not}
use Rattle.declaration.proofs.take_function.slots_used.Goals as goal

pub loop-i-init : goal.loop-i-init
loop-i-init c = all_none _

pub returns-then-not-slot_used : goal.returns-then-not-slot_used
returns-then-not-slot_used c = sym (all_not _ c.loop-i.i bar_count (omega arith) (sym c.slot_used.ensures ∙ c.if-not-slot_used.true))

pub loop-i-preserved : goal.loop-i-preserved
loop-i-preserved c = all_more _ _ c.loop-i.invariant (sym c.slot_used.ensures ∙ c.if-not-slot_used.false)
