-- `harness_bar_asks` goes by what the BAR asks.
use Rattle.harness.proofs.scalar.harness_bar_asks.Goals as goal

pub returns-in-Probe : goal.returns-in-Probe
returns-in-Probe c = rw (← c.bar_with-bar.ensures, ← c.write.ensures, c.in-Probe.is)

pub returns-in-Relocate : goal.returns-in-Relocate
returns-in-Relocate c = rw (← c.bar_with-bar.ensures, ← c.write.ensures, c.in-Relocate.is)
