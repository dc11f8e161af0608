-- `ConfigOffset::new` gives an offset exactly for those in the space.
use mathlib.Core.Path.{sym}
use Rattle.address.proofs.Offsets.{offset_good, offset_bad}
use Rattle.address.proofs.offset.ConfigOffset.new.Goals as goal

pub returns-then-value-space : goal.returns-then-value-space
returns-then-value-space c = sym (offset_good _ _ c.if-value-space.true)

pub returns-else-value-space : goal.returns-else-value-space
returns-else-value-space c = sym (offset_bad _ _ c.if-value-space.false)
