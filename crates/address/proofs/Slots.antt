-- What a slot's constructor gives.
use Rattle.std.specs.Prelude.{Ok, Err}
use Prim.Native.Nat.{ℕ, ◌<◌, ◌≤◌}
use mathlib.Core.Path.{◌≡◌}
use borrow.Author.Tests.{lt-ltb, le-ltb, ltb-true, ltb-false}
use native.Mathlib.Nat.{mod-lt}
use native.Mathlib.Omega.{arith}
use lib.Dec.{ltb}
use Rattle.address.specs.Layout.{bar_count}
use Rattle.address.specs.Kinds.{slot, slot_of, index_of}
use Rattle.address.specs.declared.slot.Slot.{Slot}
use Rattle.refusal.proofs.Choices.{was_ok, was_refused}
use Rattle.refusal.specs.declared.refusal.Refusal.{Refusal}
use Rattle.refusal.specs.declared.refusal.Refusal.TheVariants as refusal

pub slot_good : (v : ℕ) → v < bar_count → slot_of v ≡ Ok (slot v)
unfolding slot_of
slot_good v h = rw (lt-ltb v bar_count h)

pub slot_bad : (v : ℕ) → bar_count ≤ v → slot_of v ≡ Err refusal.BadDeviceOrSlot
unfolding slot_of
slot_bad v h = rw (le-ltb v bar_count h)

-- the only slots are those below six
pub slot_is : (v : ℕ) (s : Slot) → slot_of v ≡ Ok s → (s ≡ slot v) × (v < bar_count)
unfolding slot_of
slot_is v s e = let r = was_ok (ltb v bar_count) (slot v) s refusal.BadDeviceOrSlot e in (r.0, ltb-true v bar_count r.1)

-- and what is refused is above them
pub slot_refused : (v : ℕ) (r : Refusal) → slot_of v ≡ Err r → (r ≡ refusal.BadDeviceOrSlot) × (bar_count ≤ v)
unfolding slot_of
slot_refused v r e = let q = was_refused (ltb v bar_count) (slot v) refusal.BadDeviceOrSlot r e in (q.0, ltb-false v bar_count q.1)

-- a slot stands at its own number
pub index_is : (v : ℕ) → v < bar_count → index_of (slot v) ≡ v
index_is v h = omega arith

pub index_lt : (s : Slot) → index_of s < bar_count
index_lt s = mod-lt s.0 (omega arith)
