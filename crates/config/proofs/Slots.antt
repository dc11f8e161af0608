-- Slots of a function's state.
use Prim.Native.Nat.{ℕ, ◌<◌, ◌≤◌}
use mathlib.Core.Bool.{true, false, not, and-false}
use mathlib.Core.List.{List}
use mathlib.Core.Path.{◌≡◌}
use borrow.Author.Tests.{le-leb, lt-leb, lt-ltb, le-ltb, leb-true, ltb-true, eqb-false, not-true}
use native.Mathlib.Omega.{arith}
use lib.Dec.{leb, ltb, eqb}
use Rattle.word.proofs.Tests.{and_left, and_right}
use Rattle.address.specs.Layout.{bar_start, bar_end, bar_count}
use Rattle.bar.specs.declared.bar_state.BarState.{BarState}
use Rattle.config.specs.State.{bar_at, slot_at, in_bar}

pub bar_before : (bars : List BarState) (o : ℕ) → o < bar_start → in_bar bars o ≡ false
unfolding in_bar
bar_before bars o h = rw (lt-leb bar_start o h)

pub bar_after : (bars : List BarState) (o : ℕ) → bar_end ≤ o → in_bar bars o ≡ false
unfolding in_bar
bar_after bars o h = rw (le-ltb o bar_end h, and-false (leb bar_start o))

-- in the registers the slot's size decides
pub bar_there : (bars : List BarState) (o : ℕ) → bar_start ≤ o → o < bar_end → in_bar bars o ≡ not (eqb (bar_at bars (slot_at o)).plan.size 0)
unfolding in_bar
bar_there bars o h k = rw (le-leb bar_start o h, lt-ltb o bar_end k)

-- a register's slot is one of them, and there is a BAR in it
pub in_bar_from : (bars : List BarState) (o : ℕ) → in_bar bars o ≡ true → bar_start ≤ o
unfolding in_bar
in_bar_from bars o e = leb-true bar_start o (and_left (leb bar_start o) _ e)

pub in_bar_below : (bars : List BarState) (o : ℕ) → in_bar bars o ≡ true → o < bar_end
unfolding in_bar
in_bar_below bars o e = ltb-true o bar_end (and_left (ltb o bar_end) _ (and_right (leb bar_start o) _ e))

pub in_bar_slot : (bars : List BarState) (o : ℕ) → in_bar bars o ≡ true → slot_at o < bar_count
in_bar_slot bars o e = omega (arith, in_bar_from bars o e, in_bar_below bars o e)

pub in_bar_size : (bars : List BarState) (o : ℕ) → in_bar bars o ≡ true → (bar_at bars (slot_at o)).plan.size ≡ 0 → ⊥
unfolding in_bar
in_bar_size bars o e = eqb-false (bar_at bars (slot_at o)).plan.size 0 (not-true _ (and_right (ltb o bar_end) _ (and_right (leb bar_start o) _ e)))
