-- The BAR at a slot, and at a key.
use Prim.Native.Nat.{ℕ, ◌/◌, ◌%◌, ◌<◌, ◌≤◌}
use mathlib.Core.Bool.{true, false}
use mathlib.Core.Path.{◌≡◌}
use borrow.Author.Tests.{lt-ltb, le-ltb}
use lib.ListN.{length, get_or}
use Rattle.word.proofs.Searches.{first_is, first_none}
use Rattle.word.proofs.Tables.{get_or_inside}
use Rattle.address.specs.Layout.{bar_count}
use Rattle.bar.specs.Bar.{no_bar}
use Rattle.placement.specs.Keys.{no_function, bars_in, stands_at, slot_bar, declared_at}
use Rattle.placement.specs.declared.declared_bars.FunctionBars.{FunctionBars}
use Rattle.placement.specs.declared.declared_bars.DeclaredBars.{DeclaredBars}

module _ (f : FunctionBars) (s : ℕ) where
  -- the first one that stands there
  pub slot_first : (i : ℕ) → i < bars_in f → stands_at f s i ≡ true → ((k : ℕ) → k < i → stands_at f s k ≡ false) → slot_bar f s ≡ get_or f.bars i no_bar
  unfolding slot_bar
  slot_first i h e n = first_is (λ k. get_or f.bars k no_bar) no_bar (stands_at f s) (bars_in f) i (record { below = h; before = n; here = e })

  pub slot_none : ((k : ℕ) → k < bars_in f → stands_at f s k ≡ false) → slot_bar f s ≡ no_bar
  unfolding slot_bar
  slot_none n = first_none (λ k. get_or f.bars k no_bar) no_bar (stands_at f s) (bars_in f) n

module _ (d : DeclaredBars) (key : ℕ) where
  pub key_in : (blank : FunctionBars) → key / bar_count < length d.functions → key / bar_count < d.count → declared_at d key ≡ slot_bar (get_or d.functions (key / bar_count) blank) (key % bar_count)
  unfolding declared_at
  key_in blank l h = rw (lt-ltb (key / bar_count) d.count h, get_or_inside d.functions (key / bar_count) no_function blank l)

  pub key_past : d.count ≤ key / bar_count → declared_at d key ≡ no_bar
  unfolding declared_at
  key_past h = rw (le-ltb (key / bar_count) d.count h)
