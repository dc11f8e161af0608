-- `lookup` at a key has seen that no BAR before it holds the access; ranges and command bits are listed once.
use mathlib.Core.Bool.{false}
use mathlib.Core.Path.{◌≡◌}
use Rattle.word.specs.Search.{any_below}
use Rattle.bus.specs.Lookup.{holds_at}
use Rattle.bus.proofs.memory_lookup.lookup.Given as goal

abbrev pub invariant-loop-key : goal.invariant-loop-key
invariant-loop-key l = any_below (holds_at l.bus l.address l.width) l.key ≡ false
