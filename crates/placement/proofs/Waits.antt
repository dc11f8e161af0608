-- What waits: an automatic BAR with a size, whose key has nothing yet.
use Prim.Native.Nat.{ℕ, ◌<◌}
use mathlib.Core.Bool.{Bool, true, ◌&&◌}
use mathlib.Core.List.{List}
use mathlib.Core.Path.{◌≡◌, refl}
use borrow.Author.Tests.{lt-ltb, ltb-true, eq-eqb, eqb-true}
use lib.Dec.{ltb, eqb}
use lib.ListN.{get_or}
use Rattle.word.proofs.Tests.{both, and_left, and_right}
use Rattle.bar.specs.declared.range.Range.{Range}
use Rattle.bar.specs.declared.memory_bar.MemoryBar.{MemoryBar}
use Rattle.bar.specs.declared.memory_bar.Request.{Request}
use Rattle.bar.specs.declared.memory_bar.Request.TheVariants.{Auto, Fixed}
use Rattle.placement.specs.Place.{no_range}
use Rattle.placement.specs.Order.{size_at, request_at}
use Rattle.placement.specs.Passes.{is_auto, waits}

is_auto_lem : (r : Request) → is_auto r ≡ true → r ≡ Auto
is_auto_lem Auto e = refl
is_auto_lem (Fixed a) e = absurd (both e refl)

module _ (bars : List MemoryBar) (placed : List Range) (key : ℕ) where
  abbrev auto : Bool
  auto = is_auto (request_at bars key)

  abbrev full : Bool
  full = ltb 0 (size_at bars key)

  abbrev empty : Bool
  empty = eqb (get_or placed key no_range).size 0

  pub waits_auto : waits bars placed key ≡ true → request_at bars key ≡ Auto
  unfolding waits
  waits_auto e = is_auto_lem (request_at bars key) (and_left auto (full && empty) e)

  pub waits_size : waits bars placed key ≡ true → 0 < size_at bars key
  unfolding waits
  waits_size e = ltb-true 0 (size_at bars key) (and_left full empty (and_right auto (full && empty) e))

  pub waits_empty : waits bars placed key ≡ true → (get_or placed key no_range).size ≡ 0
  unfolding waits
  waits_empty e = eqb-true (get_or placed key no_range).size 0 (and_right full empty (and_right auto (full && empty) e))

  pub is_waiting : request_at bars key ≡ Auto → 0 < size_at bars key → (get_or placed key no_range).size ≡ 0 → waits bars placed key ≡ true
  unfolding waits
  is_waiting e h z = rw (e, lt-ltb 0 (size_at bars key) h, eq-eqb (get_or placed key no_range).size 0 z)

-- it goes by what the key has
pub waits_same : (bars : List MemoryBar) (placed after : List Range) (key : ℕ) → get_or placed key no_range ≡ get_or after key no_range → waits bars placed key ≡ waits bars after key
unfolding waits
waits_same bars placed after key e = rw e
