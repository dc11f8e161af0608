-- What follows from the truth: equal reports are of functions that agree, and equal addresses give one report.
use Prim.Native.Nat.{ℕ, ◌<◌, ◌≤◌}
use mathlib.Core.Path.{◌≡◌, sym, ap, ◌∙◌}
use lib.ListN.{get_or}
use Rattle.word.proofs.Tables.{table_ext}
use Rattle.address.specs.Layout.{bar_count}
use Rattle.address.specs.Limits.{capability_room}
use Rattle.config.specs.declared.function.Function.{Function}
use Rattle.config.specs.declared.state.FunctionState.{FunctionState}
use Rattle.enumeration.specs.Enumerate.{empty_slot, no_listed}
use Rattle.enumeration.specs.Truth.{slot_report, size_in, address_in, declared_report, reported_size, Agree}
use Rattle.enumeration.specs.declared.report.Report.{Report}
use Rattle.enumeration.specs.declared.report.SlotReport.{SlotReport}
use Rattle.enumeration.proofs.TrueReports.{slot_size, slot_address, reported_slot, reported_count, reported_listed}

-- "So two functions with equal reports agree in all of these"
module _ (f : Function) (s : FunctionState) (g : Function) (t : FunctionState) (e : declared_report f s ≡ declared_report g t) where
  same_slot : (i : ℕ) → i < bar_count → slot_report (size_in f i) (address_in s i) ≡ slot_report (size_in g i) (address_in t i)
  same_slot i h = sym (reported_slot f s i h) ∙ ap (λ (r : Report). get_or r.slots i empty_slot) e ∙ reported_slot g t i h

  same_size : (i : ℕ) → i < bar_count → reported_size f i ≡ reported_size g i
  same_size i h = sym (slot_size (size_in f i) (address_in s i)) ∙ ap (λ (r : SlotReport). r.size) (same_slot i h) ∙ slot_size (size_in g i) (address_in t i)

  same_address : (i : ℕ) → i < bar_count → 0 < reported_size f i → address_in s i ≡ address_in t i
  same_address i h z =
      sym (slot_address (size_in f i) (address_in s i) z) ∙ ap (λ (r : SlotReport). r.address) (same_slot i h) ∙ slot_address (size_in g i) (address_in t i) (rw (same_size i h) at z)

  same_count : f.capabilities.count ≡ g.capabilities.count
  same_count = sym (reported_count f s) ∙ ap (λ (r : Report). r.list_count) e ∙ reported_count g t

  pub equal_reports : f.capabilities.count ≤ capability_room → Agree f s g t
  equal_reports few =
      record {
        identity = ap (λ (r : Report). r.identity) e;
        pin = ap (λ (r : Report). r.pin) e;
        sizes = same_size;
        addresses = same_address;
        count = same_count;
        list = λ i h. sym (reported_listed f s i h few) ∙ ap (λ (r : Report). get_or r.list i no_listed) e ∙ reported_listed g t i (rw same_count at h) (rw same_count at few);
      }

-- the report says of a state where its BARs are, and no more
pub equal_addresses : (f : Function) (s t : FunctionState) → ((i : ℕ) → i < bar_count → address_in s i ≡ address_in t i) → declared_report f s ≡ declared_report f t
equal_addresses f s t e =
    rw (table_ext bar_count (λ i. slot_report (size_in f i) (address_in s i)) (λ i. slot_report (size_in f i) (address_in t i)) (λ i h. rw (e i h)))
