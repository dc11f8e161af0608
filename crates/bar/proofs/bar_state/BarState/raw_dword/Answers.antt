-- `raw_dword` is the mask while probing, the committed dword else.
use mathlib.Core.Path.{sym, ◌∙◌}
use Rattle.bar.proofs.States.{shown_probing, shown_committed}
use Rattle.bar.proofs.bar_state.BarState.raw_dword.Goals as goal

pub returns-then-self : goal.returns-then-self
returns-then-self c = c.size_mask.ensures ∙ sym (shown_probing _ c.if-self.true)

pub returns-else-self : goal.returns-else-self
returns-else-self c = c.committed_dword.ensures ∙ sym (shown_committed _ c.if-self.false)
