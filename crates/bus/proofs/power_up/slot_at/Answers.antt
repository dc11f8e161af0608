use mathlib.Core.Path.{sym, ◌∙◌}
use borrow.Author.Rules.{rules}
use Rattle.address.proofs.Slots.{slot_good, slot_is}
use Rattle.bus.proofs.power_up.slot_at.Goals as goal

pub unwrap-requires : goal.unwrap-requires
unwrap-requires c = rw (c.new.ensures ∙ slot_good _ c.requires) (search rules)

pub returns : goal.returns
returns c = (slot_is _ _ (sym c.new.ensures ∙ c.unwrap.ensures)).0
