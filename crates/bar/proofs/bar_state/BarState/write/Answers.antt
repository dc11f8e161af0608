-- `write` merges into the committed dword and classifies the result.
use Rattle.word.specs.Number.{merge}
use Rattle.bar.specs.Register.{committed}
use mathlib.Core.Path.{◌≡◌, sym, ◌∙◌}
use Rattle.bar.proofs.States.{asks_probe, asks_relocate}
use Rattle.bar.proofs.bar_state.BarState.write.Goals as goal
use Rattle.bar.proofs.bar_state.BarState.write.Goals.{After-merged-dword}

dword : (c : After-merged-dword) → let a = c.args in c.merged-dword.result ≡ merge (committed a.self.address) a.lane a.width a.value
dword c = rw (← c.committed_dword.ensures) c.merged-dword.ensures

pub returns-then-probe : goal.returns-then-probe
returns-then-probe c = sym (asks_probe _ _ _ _ _ (dword (goal.at.returns-then-probe c).After-merged-dword) (sym c.starts_probe-probe.ensures ∙ c.if-probe.true))

pub returns-else-probe : goal.returns-else-probe
returns-else-probe c =
    rw c.candidate_address.ensures (sym (asks_relocate _ _ _ _ _ (dword (goal.at.returns-else-probe c).After-merged-dword) (sym c.starts_probe-probe.ensures ∙ c.if-probe.false)))
