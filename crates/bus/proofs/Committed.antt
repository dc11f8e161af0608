-- The committed range at a key.
use Prim.Native.Nat.{ℕ, ◌*◌, ◌/◌, ◌%◌, ◌<◌, ◌≤◌}
use mathlib.Core.Bool.{cond}
use mathlib.Core.Logic.{⊎_elim}
use mathlib.Core.Path.{◌≡◌, refl, sym, ◌∙◌}
use native.Mathlib.Omega.{arith}
use borrow.Author.Tests.{lt-ltb, le-ltb, eq-eqb, ne_eqb}
use lib.Dec.{ltb}
use lib.ListN.{get_or, set}
use Rattle.word.specs.Table.{filled}
use Rattle.word.proofs.Tables.{get_or_table, table_ext, table_set}
use Rattle.word.proofs.Tests.{below_or_not}
use Rattle.address.specs.Layout.{bar_count}
use Rattle.bar.specs.State.{range_of}
use Rattle.bar.specs.declared.range.Range.{Range}
use Rattle.config.specs.State.{bar_at}
use Rattle.placement.specs.Keys.{key_count}
use Rattle.placement.specs.Place.{no_range}
use Rattle.bus.specs.Bus.{count_on, function_at, bar_on, range_on, ranges_on, key_of}
use Rattle.bus.specs.Access.{range_but, ranges_but}
use Rattle.bus.specs.declared.state.Bus.{Bus}

module _ (b : Bus) (key : ℕ) where
  pub range_there : key / bar_count < count_on b → range_on b key ≡ range_of (bar_on b key)
  unfolding range_on
  range_there h = rw (lt-ltb (key / bar_count) (count_on b) h)

  pub range_past : count_on b ≤ key / bar_count → range_on b key ≡ no_range
  unfolding range_on
  range_past h = rw (le-ltb (key / bar_count) (count_on b) h)

-- by function and slot
pub range_slot : (b : Bus) (k i : ℕ) → k < count_on b → i < bar_count → range_on b (key_of k i) ≡ range_of (bar_at (function_at b k).bars i)
range_slot b k i h l =
    let p : key_of k i / bar_count ≡ k = omega arith in
    let q : key_of k i % bar_count ≡ i = omega arith in
    range_there b (key_of k i) (rw p h) ∙ rw (p, q)

-- the list of all: past the last function it is blank, and with one left out it is the list of the others
module _ (b : Bus) where
  pub ranges_filled : filled key_count (count_on b * bar_count) (range_on b) no_range ≡ ranges_on b
  unfolding filled ranges_on
  ranges_filled =
      table_ext key_count (λ k. cond (ltb k (count_on b * bar_count)) (range_on b k) no_range) (range_on b) (λ k h.
      ⊎_elim (λ (l : k < count_on b * bar_count). rw (lt-ltb k (count_on b * bar_count) l))
      (λ (l : count_on b * bar_count ≤ k). rw (le-ltb k (count_on b * bar_count) l) (sym (range_past b k (omega arith))))
      (below_or_not k (count_on b * bar_count)))

  pub range_listed : (key : ℕ) (d : Range) → key < key_count → get_or (ranges_on b) key d ≡ range_on b key
  unfolding ranges_on
  range_listed key d h = get_or_table key_count (range_on b) key d h

  pub ranges_without : (key : ℕ) → key < key_count → set (ranges_on b) key no_range ≡ ranges_but b key
  unfolding ranges_on ranges_but range_but
  ranges_without key h = table_set no_range key_count (range_on b) (range_but b key) key no_range h (rw (eq-eqb key key refl)) (λ k l q. rw (ne_eqb k key q))
