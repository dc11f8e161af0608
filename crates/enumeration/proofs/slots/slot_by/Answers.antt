-- `slot_by` goes by the mask.
use borrow.Author.Tests.{ne_eqb}
use Rattle.bar.specs.Register.{size_mask}
use Rattle.enumeration.proofs.slots.slot_by.Goals as goal

pub returns : goal.returns
unfolding size_mask
returns c = rw (ne_eqb _ _ c.if-mask-eq0.false, c.size_mask.ensures)
