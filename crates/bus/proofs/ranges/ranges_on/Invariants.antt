-- `ranges_on` fills the list key by key, up to the end of the last function; the rest stays blank.
use mathlib.Core.Path.{◌≡◌}
use Rattle.word.specs.Table.{filled}
use Rattle.placement.specs.Keys.{key_count}
use Rattle.placement.specs.Place.{no_range}
use Rattle.bus.specs.Bus.{range_on}
use Rattle.bus.proofs.ranges.ranges_on.Given as goal

abbrev pub invariant-loop-key : goal.invariant-loop-key
invariant-loop-key l = l.ranges ≡ filled key_count l.key (range_on l.bus) no_range
