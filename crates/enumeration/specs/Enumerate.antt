-- Enumeration, as document 01 writes it: a program over the bus's own reads and writes.
use Rattle.std.specs.Prelude.{ℕ, zero, suc, ◌+◌, ◌-◌, ◌%◌, ◌^◌, Bool, true, false, cond, Option, None, Some, is_some, unwrap_or, Result, Ok, Err, List, [], ◌∷◌, eqb, length, get_or, replicate}
use Rattle.std.specs.Int.Bits.{bit_and}
use Rattle.word.specs.Table.{table, filled}
use Rattle.address.specs.Layout as layout
use Rattle.address.specs.Limits.{capability_room}
use Rattle.address.specs.Kinds.{slot, register_of}
use Rattle.bar.specs.Range.{four_gib}
use Rattle.config.specs.declared.function.Identity.{Identity}
use Rattle.refusal.specs.declared.refusal.Refusal.{Refusal}
use Rattle.config.specs.declared.read_step.ReadAnswer.{ReadAnswer}
use Rattle.config.specs.declared.read_step.ReadAnswer.TheVariants as read_answer
use Rattle.declaration.specs.Blank.{no_identity}
use Rattle.bus.specs.Access.{bus_read_of, bus_write_of}
use Rattle.bus.specs.declared.state.Bus.{Bus}
use Rattle.enumeration.specs.declared.report.SlotReport.{SlotReport}
use Rattle.enumeration.specs.declared.report.Listed.{Listed}
use Rattle.enumeration.specs.declared.report.Report.{Report}
use Rattle.enumeration.specs.declared.whole.Enumerated.{Enumerated}

-- the number that a read gives, if it gives one
abbrev pub value_of : Result ReadAnswer Refusal → Option ℕ
value_of (Ok (read_answer.Value v)) = Some v
value_of (Ok (read_answer.Effect hit body)) = None
value_of (Err r) = None

-- 0 where it gives none (a read of w bytes gives a number of w bytes; the remainder says so where a state is none that a bus reaches)
unfoldable pub asked : Bus → ℕ → ℕ → ℕ → ℕ
asked b d o w = unwrap_or (value_of (bus_read_of b d o w)) 0 % 256 ^ w

unfoldable pub answers_byte : Bus → ℕ → ℕ → Bool
answers_byte b d o = is_some (value_of (bus_read_of b d o 1))

-- "identity (vendor, device id, subsystem pair, revision, the three class bytes) .., read at the offsets above"
unfoldable pub identity_read : Bus → ℕ → Identity
identity_read b d =
    record {
      vendor = asked b d layout.vendor_id 2;
      device = asked b d layout.device_id 2;
      subsystem_vendor = asked b d layout.subsystem_vendor_id 2;
      subsystem = asked b d layout.subsystem_device_id 2;
      revision = asked b d layout.revision 1;
      base_class = asked b d layout.base_class 1;
      subclass = asked b d layout.subclass 1;
      programming_interface = asked b d layout.programming_interface 1;
    }

-- "For each slot: read dword a, write 0xffffffff, read m, write a."
abbrev pub register_at : ℕ → ℕ
register_at i = register_of (slot i)

abbrev pub with_ones : Bus → ℕ → ℕ → Bus
with_ones b d i = (bus_write_of b d (register_at i) 4 0xffffffff).bus

unfoldable pub after_slot : Bus → ℕ → ℕ → Bus
after_slot b d i = (bus_write_of (with_ones b d i) d (register_at i) 4 (asked b d (register_at i) 4)).bus

-- "Slot empty if m is 0, otherwise size 2^32 - m, address a."
abbrev pub empty_slot : SlotReport
empty_slot = record { size = 0; address = 0 }

abbrev pub slot_by : ℕ → ℕ → SlotReport
slot_by a m = cond (eqb m 0) empty_slot (record { size = four_gib - m; address = a })

unfoldable pub slot_read : Bus → ℕ → ℕ → SlotReport
slot_read b d i = slot_by (asked b d (register_at i) 4) (asked (with_ones b d i) d (register_at i) 4)

-- the bus after the first n slots
unfoldable pub after_slots : Bus → ℕ → ℕ → Bus
after_slots b d zero = b
after_slots b d (suc n) = after_slot (after_slots b d n) d n

abbrev pub slots_read : Bus → ℕ → List SlotReport
slots_read b d = table layout.bar_count (λ i. slot_read (after_slots b d i) d i)

-- "follow byte 0x34 through next bytes to 0, listing offset and id, each read one byte wide; it ends at the limit of capabilities too, or at a read that gives no byte": at most n from a pointer on
unfoldable pub list_from : Bus → ℕ → ℕ → ℕ → List Listed
list_from b d zero p = []
list_from b d (suc n) p =
    cond (eqb p 0) []
    (cond (answers_byte b d p) (record { offset = p; id = asked b d p 1 } ∷ cond (answers_byte b d (p + 1)) (list_from b d n (asked b d (p + 1) 1)) []) [])

-- "If status has 0x10"
unfoldable pub list_read : Bus → ℕ → List Listed
list_read b d = cond (eqb (bit_and (asked b d layout.status 2) layout.capabilities_list) 0) [] (list_from b d capability_room (asked b d layout.capability_pointer 1))

abbrev pub no_listed : Listed
no_listed = record { offset = 0; id = 0 }

abbrev pub list_array : List Listed → List Listed
list_array l = filled capability_room (length l) (λ k. get_or l k no_listed) no_listed

-- "absent"
unfoldable pub absent_report : Report
absent_report =
    record { present = false; identity = no_identity; pin = 0; slots = replicate layout.bar_count empty_slot; list = replicate capability_room no_listed; list_count = 0 }

abbrev pub report_with : Identity → ℕ → List SlotReport → List Listed → Report
report_with identity pin slots l = record { present = true; identity = identity; pin = pin; slots = slots; list = list_array l; list_count = length l }

-- the whole: identity and pin, then the slots, then the list
unfoldable pub enumerate_of : Bus → ℕ → Enumerated
enumerate_of b d =
    cond (eqb (asked b d layout.vendor_id 2) layout.absent_vendor_id) (record { report = absent_report; bus = b })
    (record { report = report_with (identity_read b d) (asked b d layout.interrupt_pin 1) (slots_read b d) (list_read (after_slots b d layout.bar_count) d); bus = after_slots b d layout.bar_count })
