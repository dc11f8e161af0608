-- What stands in a true report, place by place.
use Prim.Native.Nat.{ℕ, ◌<◌, ◌≤◌}
use mathlib.Core.Bool.{true, false, ◌||◌}
use mathlib.Core.Logic.{⊎_elim}
use mathlib.Core.Path.{◌≡◌, refl, ◌∙◌}
use native.Mathlib.Omega.{arith}
use borrow.Author.Tests.{ne_eqb}
use lib.Dec.{eqb}
use lib.ListN.{length, get_or}
use Rattle.word.proofs.Tables.{length_table, get_or_table, filled_at}
use Rattle.word.proofs.Tests.{true_or_false}
use Rattle.address.specs.Layout.{bar_count}
use Rattle.address.specs.Limits.{capability_room}
use Rattle.bar.specs.Range.{four_gib}
use Rattle.config.specs.declared.function.Function.{Function}
use Rattle.config.specs.declared.state.FunctionState.{FunctionState}
use Rattle.enumeration.specs.Enumerate.{empty_slot, no_listed}
use Rattle.enumeration.specs.Truth.{slot_report, size_in, address_in, declared_listed, declared_list, declared_report}
use Rattle.enumeration.specs.declared.report.SlotReport.{SlotReport}

-- a slot is reported empty, or as it is
pub slot_by_lem : (n a : ℕ) (P : SlotReport → Type 0) → P empty_slot → P (record { size = n; address = a }) → P (slot_report n a)
slot_by_lem n a P none some =
    ⊎_elim (λ (t : eqb n 0 || eqb n four_gib ≡ true). rw t none) (λ (t : eqb n 0 || eqb n four_gib ≡ false). rw t some) (true_or_false (eqb n 0 || eqb n four_gib))

pub slot_as : (n a : ℕ) → 0 < n → (n ≡ four_gib → ⊥) → slot_report n a ≡ record { size = n; address = a }
slot_as n a h f = rw (ne_eqb n 0 (λ (e : n ≡ 0). omega arith), ne_eqb n four_gib f)

-- the reported size does not depend on the address, and where it is not 0 the address is the one reported
pub slot_size : (n a : ℕ) → (slot_report n a).size ≡ (slot_report n 0).size
slot_size n a =
    ⊎_elim (λ (t : eqb n 0 || eqb n four_gib ≡ true). rw t) (λ (t : eqb n 0 || eqb n four_gib ≡ false). rw t) (true_or_false (eqb n 0 || eqb n four_gib))

pub slot_address : (n a : ℕ) → 0 < (slot_report n 0).size → (slot_report n a).address ≡ a
slot_address n a =
    ⊎_elim (λ (t : eqb n 0 || eqb n four_gib ≡ true). rw t (λ h. absurd (omega arith))) (λ (t : eqb n 0 || eqb n four_gib ≡ false). rw t (λ h. refl)) (true_or_false (eqb n 0 || eqb n four_gib))

-- what stands in a true report
module _ (f : Function) (s : FunctionState) where
  pub reported_slot : (i : ℕ) → i < bar_count → get_or (declared_report f s).slots i empty_slot ≡ slot_report (size_in f i) (address_in s i)
  reported_slot i h = get_or_table bar_count (λ i. slot_report (size_in f i) (address_in s i)) i empty_slot h

  pub reported_count : (declared_report f s).list_count ≡ f.capabilities.count
  reported_count = length_table f.capabilities.count (declared_listed f)

  pub reported_listed : (i : ℕ) → i < f.capabilities.count → f.capabilities.count ≤ capability_room → get_or (declared_report f s).list i no_listed ≡ declared_listed f i
  reported_listed i h l =
      filled_at capability_room (λ k. get_or (declared_list f) k no_listed) no_listed (length (declared_list f)) i no_listed (omega arith) (rw reported_count h) ∙
      get_or_table f.capabilities.count (declared_listed f) i no_listed h
