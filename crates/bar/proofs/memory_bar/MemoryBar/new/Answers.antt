-- `MemoryBar::new` goes by the size rule.
use mathlib.Core.Path.{sym, ◌∙◌}
use Rattle.bar.proofs.Sizes.{bar_good, bar_bad}
use Rattle.bar.proofs.memory_bar.MemoryBar.new.Goals as goal

pub returns-then-good : goal.returns-then-good
returns-then-good c = sym (bar_good _ _ _ (sym c.size_ok-good.ensures ∙ c.if-good.true))

pub returns-else-good : goal.returns-else-good
returns-else-good c = sym (bar_bad _ _ _ (sym c.size_ok-good.ensures ∙ c.if-good.false))
