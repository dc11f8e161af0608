-- A good function has the BAR of slot s at place s, so placement's keys and the bus's are one.
use Prim.Native.Nat.{ℕ, ◌/◌, ◌%◌, ◌<◌}
use mathlib.Core.Bool.{false}
use mathlib.Core.Logic.{⊎_elim}
use mathlib.Core.Path.{◌≡◌, ap, ◌∙◌}
use native.Mathlib.Nat.{mod-lt}
use native.Mathlib.Omega.{arith}
use borrow.Author.Tests.{eq-eqb, ne_eqb}
use lib.ListN.{get_or}
use Rattle.word.proofs.Tables.{length_table, get_or_table}
use Rattle.word.proofs.Tests.{same_or_not}
use Rattle.address.specs.Kinds.{index_of}
use Rattle.address.specs.Layout.{bar_count}
use Rattle.address.specs.Limits.{function_room}
use Rattle.address.specs.declared.slot.Slot.{Slot}
use Rattle.bar.specs.Bar.{no_bar}
use Rattle.bar.specs.declared.memory_bar.MemoryBar.{MemoryBar}
use Rattle.config.specs.declared.function.Function.{Function}
use Rattle.placement.specs.Keys.{stands_at, slot_bar, bars_of}
use Rattle.placement.proofs.Answers.{bars_at}
use Rattle.placement.proofs.Slots.{slot_first, slot_none, key_in}
use Rattle.declaration.specs.Good.{GoodSlot, empty, used, GoodFunction, Good}
use Rattle.declaration.specs.declared.answer.Declaration.{Declaration}
use Rattle.bus.specs.Start.{declared_function, function_bars, declared_bars}

-- what stands at another place has another slot, or is no BAR
other_slot : (b : MemoryBar) (i s : ℕ) → GoodSlot i b → i < bar_count → (i ≡ s → ⊥) → (s ≡ 0 → ⊥) → index_of b.slot ≡ s → ⊥
other_slot b i s (empty e) h d z q = z (omega (arith, ap (λ (m : MemoryBar). m.slot.0) e))
other_slot b i s (used e n a) h d z q = d (omega (arith, ap (λ (t : Slot). t.0) e))

module _ (f : Function) (g : GoodFunction f) where
  passed : (i s : ℕ) → i < bar_count → (i ≡ s → ⊥) → (s ≡ 0 → ⊥) → stands_at (function_bars f) s i ≡ false
  passed i s h d z = ne_eqb _ s (other_slot (get_or f.bars i no_bar) i s (g.bars i h) h d z)

  -- at its own place a BAR is found; where there is none, none is
  own_slot : (s : ℕ) → s < bar_count → (s ≡ 0 → ⊥) → GoodSlot s (get_or f.bars s no_bar) → slot_bar (function_bars f) s ≡ get_or f.bars s no_bar
  own_slot s h z (empty e) =
      let q : (get_or f.bars s no_bar).slot.0 ≡ 0 = ap (λ (m : MemoryBar). m.slot.0) e in
      rw e
      (slot_none (function_bars f) s (λ k l. ⊎_elim (λ (p : k ≡ s). rw p (ne_eqb _ s (λ t. z (omega arith)))) (λ (p : k ≡ s → ⊥). passed k s (omega arith) p z) (same_or_not k s)))
  own_slot s h z (used e n a) =
      let q : (get_or f.bars s no_bar).slot.0 ≡ s = ap (λ (t : Slot). t.0) e in
      slot_first (function_bars f) s s (omega arith) (eq-eqb _ s (omega arith)) (λ k l. passed k s (omega arith) (λ p. omega arith) z)

  first_slot : GoodSlot 0 (get_or f.bars 0 no_bar) → index_of (get_or f.bars 0 no_bar).slot ≡ 0
  first_slot (empty e) = let q : (get_or f.bars 0 no_bar).slot.0 ≡ 0 = ap (λ (m : MemoryBar). m.slot.0) e in omega arith
  first_slot (used e n a) = let q : (get_or f.bars 0 no_bar).slot.0 ≡ 0 = ap (λ (t : Slot). t.0) e in omega arith

  pub slot_bar_lem : (s : ℕ) → s < bar_count → slot_bar (function_bars f) s ≡ get_or f.bars s no_bar
  slot_bar_lem s h =
      ⊎_elim (λ (z : s ≡ 0). rw z (slot_first (function_bars f) 0 0 (omega arith) (eq-eqb _ 0 (first_slot (g.bars 0 (omega arith)))) (λ k l. absurd (omega arith))))
      (λ (z : s ≡ 0 → ⊥). own_slot s h z (g.bars s h)) (same_or_not s 0)

-- the BAR at a key of an accepted declaration
module _ (d : Declaration) (g : Good d) where
  pub key_bar : (key : ℕ) → key / bar_count < d.count → get_or (bars_of (declared_bars d)) key no_bar ≡ get_or (declared_function d (key / bar_count)).bars (key % bar_count) no_bar
  unfolding declared_bars
  key_bar key h =
      let k = key / bar_count in
      let l : k < function_room = omega (arith, g.functions.few) in
      let b = function_bars (declared_function d k) in
      bars_at (declared_bars d) key (omega arith) ∙
      key_in (declared_bars d) key b (rw (length_table function_room (λ k. function_bars (declared_function d k))) l) h ∙
      rw (get_or_table function_room (λ k. function_bars (declared_function d k)) k b l)
      (slot_bar_lem (declared_function d k) (g.functions.each k) (key % bar_count) (mod-lt key (omega arith)))
