-- `in_bar` goes by the six registers and the size in the slot.
use mathlib.Core.Path.{sym}
use Rattle.config.proofs.Slots.{bar_before, bar_after, bar_there}
use Rattle.config.proofs.state.in_bar.Goals as goal

pub returns-then-offset-lt-CONFIG_BAR_START : goal.returns-then-offset-lt-CONFIG_BAR_START
returns-then-offset-lt-CONFIG_BAR_START c = sym (bar_before _ _ c.if-offset-lt-CONFIG_BAR_START.true)

pub returns-then-offset-ge-CONFIG_BAR_END : goal.returns-then-offset-ge-CONFIG_BAR_END
returns-then-offset-ge-CONFIG_BAR_END c = sym (bar_after _ _ c.if-offset-ge-CONFIG_BAR_END.true)

pub returns : goal.returns
returns c = rw (c.bar_at-bar.ensures, c.slot_at.ensures) (sym (bar_there _ _ c.if-offset-lt-CONFIG_BAR_START.false c.if-offset-ge-CONFIG_BAR_END.false))
