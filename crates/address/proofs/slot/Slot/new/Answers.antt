-- `Slot::new` gives a slot exactly for 0 to 5.
use mathlib.Core.Path.{sym}
use Rattle.address.proofs.Slots.{slot_good, slot_bad}
use Rattle.address.proofs.slot.Slot.new.Goals as goal

pub returns-then-value-lt-BAR_COUNT : goal.returns-then-value-lt-BAR_COUNT
returns-then-value-lt-BAR_COUNT c = sym (slot_good _ c.if-value-lt-BAR_COUNT.true)

pub returns-else-value-lt-BAR_COUNT : goal.returns-else-value-lt-BAR_COUNT
returns-else-value-lt-BAR_COUNT c = sym (slot_bad _ c.if-value-lt-BAR_COUNT.false)
