-- `addresses_of` fills the list key by key.
use Prim.Native.Nat.{ℕ}
use mathlib.Core.Path.{◌≡◌}
use mathlib.Core.List.{List}
use lib.ListN.{get_or}
use Rattle.bar.specs.declared.range.Range.{Range}
use Rattle.placement.specs.Keys.{key_count}
use Rattle.placement.specs.Place.{no_range}
use Rattle.word.specs.Table.{filled}
use Rattle.placement.proofs.answer.addresses_of.Given as goal

abbrev pub start : List Range → ℕ → ℕ
start placed key = (get_or placed key no_range).start

abbrev pub invariant-loop-key : goal.invariant-loop-key
invariant-loop-key l = l.addresses ≡ filled key_count l.key (start l.placed) 0
