-- One automatic BAR of 0x1000 alone, in slot 2 of the first function: it has the lowest place of any aperture.
use Prim.Native.Nat.{ℕ}
use mathlib.Core.List.{List}
use mathlib.Core.Path.{◌≡◌, refl, ◌∙◌}
use lib.ListN.{set, replicate}
use Rattle.std.specs.Prelude.{Some, None, Ok}
use Rattle.word.specs.Search.{any_below, first_below, first_of}
use Rattle.word.specs.Table.{table}
use Rattle.bar.specs.Range.{range}
use Rattle.bar.specs.declared.memory_bar.MemoryBar.{MemoryBar}
use Rattle.bar.specs.declared.range.Aperture.{Aperture}
use Rattle.bar.specs.declared.range.Range.{Range}
use Rattle.placement.specs.Answer.{addresses_of, placement_of}
use Rattle.placement.specs.Examples.{one_automatic}
use Rattle.placement.specs.Keys.{key_count, slot_bar, declared_at, bars_of}
use Rattle.placement.specs.Order.{comes_before}
use Rattle.placement.specs.Passes.{nothing_yet, fixed_step, fixed_after, waits, is_next, next_of, auto_after}
use Rattle.placement.specs.Place.{no_range, Lowest}
use Rattle.placement.proofs.Runs.{run_done, run_placed, answer_from}

abbrev bars : List MemoryBar
bars = bars_of (one_automatic 0x1000)

abbrev nothing : List Range
nothing = replicate key_count no_range

module _ (a : Aperture) (x : ℕ) where
  abbrev placed : List Range
  placed = set nothing 2 (range x 0x1000)

  fixed : fixed_after a bars key_count ≡ Ok nothing_yet
  unfolding fixed_after fixed_step bars_of table declared_at slot_bar first_of first_below
  fixed = refl

  nexts : (next_of bars nothing ≡ Some 2) × (next_of bars placed ≡ None)
  unfolding next_of is_next waits comes_before first_of first_below any_below bars_of table declared_at slot_bar
  nexts = (refl, refl)

  module _ (l : Lowest a 0x1000 nothing (Some x)) where
    automatic : auto_after a bars nothing_yet key_count ≡ Ok placed
    unfolding bars_of table declared_at slot_bar first_of first_below
    automatic = run_placed a bars nothing 47 2 x nexts.0 l ∙ run_done a bars placed 47 nexts.1

    pub one_placed : placement_of a (one_automatic 0x1000) ≡ Ok (set (replicate key_count 0) 2 x)
    unfolding addresses_of table
    one_placed = answer_from a (one_automatic 0x1000) nothing_yet (Ok placed) fixed automatic
