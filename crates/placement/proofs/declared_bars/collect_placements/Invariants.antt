-- `collect_placements` fills the list key by key.
use mathlib.Core.Path.{◌≡◌}
use Rattle.bar.specs.Bar.{no_bar}
use Rattle.placement.specs.Keys.{key_count, declared_at}
use Rattle.word.specs.Table.{filled}
use Rattle.placement.proofs.declared_bars.collect_placements.Given as goal

abbrev pub invariant-loop-key : goal.invariant-loop-key
invariant-loop-key l = l.bars ≡ filled key_count l.key (declared_at l.declared) no_bar
