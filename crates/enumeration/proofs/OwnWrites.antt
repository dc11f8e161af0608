-- The writes of an enumeration as a history: ones into each register, then what was read there.
use Prim.Native.Nat.{ℕ, zero, suc}
use mathlib.Core.Bool.{true, false, cond}
use mathlib.Core.List.{[], ◌∷◌, ◌++◌}
use mathlib.Core.Logic.{⊎_elim}
use mathlib.Core.Path.{◌≡◌, refl, sym, ap, ◌∙◌}
use lib.Dec.{eqb}
use Rattle.word.proofs.Tests.{true_or_false}
use Rattle.address.specs.Layout as layout
use Rattle.bus.specs.declared.state.Bus.{Bus}
use Rattle.enumeration.specs.Enumerate.{asked, register_at, after_slot, after_slots, enumerate_of}
use Rattle.enumeration.specs.History.{writes, after, History, ran}
use Rattle.enumeration.proofs.Histories.{ran_append}

module _ (b : Bus) (device : ℕ) where
  abbrev slot_writes : ℕ → History
  slot_writes i = writes device (register_at i) 4 0xffffffff ∷ writes device (register_at i) 4 (asked (after_slots b device i) device (register_at i) 4) ∷ []

  unfoldable pub slots_writes : ℕ → History
  slots_writes zero = []
  slots_writes (suc n) = slots_writes n ++ slot_writes n

  slot_ran : (i : ℕ) → after_slot (after_slots b device i) device i ≡ ran (after_slots b device i) (slot_writes i)
  unfolding after_slot after ran
  slot_ran i = refl

  slots_ran : (n : ℕ) → after_slots b device n ≡ ran b (slots_writes n)
  unfolding after_slots ran slots_writes
  slots_ran zero = refl
  slots_ran (suc n) = slot_ran n ∙ ap (λ (c : Bus). ran c (slot_writes n)) (slots_ran n) ∙ sym (ran_append b (slots_writes n) (slot_writes n))

  -- none of an absent device
  unfoldable pub enumeration_writes : History
  enumeration_writes = cond (eqb (asked b device layout.vendor_id 2) layout.absent_vendor_id) [] (slots_writes layout.bar_count)

  pub enumeration_ran : (enumerate_of b device).bus ≡ ran b enumeration_writes
  unfolding enumerate_of enumeration_writes ran
  enumeration_ran =
      ⊎_elim (λ (t : eqb (asked b device layout.vendor_id 2) layout.absent_vendor_id ≡ true). rw t)
      (λ (t : eqb (asked b device layout.vendor_id 2) layout.absent_vendor_id ≡ false). rw t (slots_ran layout.bar_count))
      (true_or_false (eqb (asked b device layout.vendor_id 2) layout.absent_vendor_id))
