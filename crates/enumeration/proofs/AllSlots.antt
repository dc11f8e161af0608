-- All slots: each is read on the bus as it was, and leaves it so.
use Prim.Native.Nat.{ℕ, zero, suc, ◌<◌, ◌≤◌}
use mathlib.Core.Path.{◌≡◌, refl}
use native.Mathlib.Omega.{arith}
use Rattle.word.proofs.Tables.{table_ext}
use Rattle.address.specs.Layout.{bar_count}
use Rattle.declaration.specs.declared.answer.Declaration.{Declaration}
use Rattle.bus.specs.Bus.{function_at}
use Rattle.bus.specs.Sound.{Sound}
use Rattle.bus.specs.Start.{declared_function}
use Rattle.bus.specs.declared.state.Bus.{Bus}
use Rattle.enumeration.specs.Enumerate.{slot_read, after_slots, slots_read}
use Rattle.enumeration.specs.Truth.{Quiet, slot_report, size_in, address_in, declared_slots}
use Rattle.enumeration.proofs.OneSlot.{slot_leaves, slot_truth}

module _ (d : Declaration) (b : Bus) (s : Sound d b) (k : ℕ) (h : k < d.count) (quiet : Quiet (function_at b k)) where
  abbrev device : ℕ
  device = (declared_function d k).device

  pub slots_leave : (n : ℕ) → n ≤ bar_count → after_slots b device n ≡ b
  unfolding after_slots
  slots_leave zero l = refl
  slots_leave (suc n) l = rw (slots_leave n (omega arith)) (slot_leaves d b s k h n (omega arith) (quiet n (omega arith)))

  pub slots_truth : slots_read b device ≡ declared_slots (declared_function d k) (function_at b k)
  slots_truth =
      table_ext bar_count (λ i. slot_read (after_slots b device i) device i) (λ i. slot_report (size_in (declared_function d k) i) (address_in (function_at b k) i)) (λ i l.
      rw (slots_leave i (omega arith)) (slot_truth d b s k h i l (quiet i l)))
