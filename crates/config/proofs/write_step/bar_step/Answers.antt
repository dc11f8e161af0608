-- `bar_step` does what the BAR asks for.
use Prim.Native.Nat.{◌%◌}
use mathlib.Core.Path.{◌≡◌, sym, ◌∙◌}
use Rattle.address.specs.Layout.{bar_register_size}
use Rattle.bar.specs.State.{asks}
use Rattle.config.specs.State.{bar_at, slot_at}
use Rattle.config.proofs.Writing.{step_probe, step_candidate}
use Rattle.config.proofs.write_step.bar_step.Goals as goal
use Rattle.config.proofs.write_step.bar_step.Goals.{After-write}

-- what the BAR answered is what the definition asks
asked : (k : After-write) → let a = k.args in k.write.result ≡ asks (bar_at a.state.bars (slot_at a.offset)) (a.offset % bar_register_size) a.width a.value
asked k = k.write.ensures ∙ rw (k.bar_at-bar.ensures, k.slot_at-i.ensures)

pub returns-in-Probe : goal.returns-in-Probe
returns-in-Probe c = let a = c.args in
    c.did.ensures ∙ rw (c.with_bar.ensures, c.set_probe.ensures, c.bar_at-bar.ensures, c.slot_at-i.ensures)
    (sym (step_probe a.state a.offset a.width a.value (sym (asked (goal.at.returns-in-Probe c).After-write) ∙ c.in-Probe.is)))

pub returns-in-Relocate : goal.returns-in-Relocate
returns-in-Relocate c = let a = c.args in
    c.did-in-Relocate.ensures ∙ rw c.slot_at-i.ensures
    (sym (step_candidate a.state a.offset a.width a.value _ (sym (asked (goal.at.returns-in-Relocate c).After-write) ∙ c.in-Relocate.is)))
