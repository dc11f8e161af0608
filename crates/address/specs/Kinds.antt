-- Two kinds of number that cannot be mixed: a BAR slot and a config offset. Each is made by a constructor that checks it, or of a number that needs no check: 0, and for an offset any byte.
use Rattle.std.specs.Prelude.{ℕ, ◌+◌, ◌*◌, ◌%◌, cond, ltb, Option, Some, None, Result, Ok, Err}
use Rattle.address.specs.Layout.{bar_count, bar_start, bar_register_size}
use Rattle.address.specs.declared.slot.Slot.{Slot}
use Rattle.address.specs.declared.offset.ConfigOffset.{ConfigOffset}
use Rattle.refusal.specs.declared.refusal.Refusal.TheVariants as refusal
use Rattle.refusal.specs.declared.refusal.Refusal.{Refusal}

abbrev pub slot : ℕ → Slot
slot v = record { 0 = v }

-- "slot above 5" is refusal 5
unfoldable pub slot_of : ℕ → Result Slot Refusal
slot_of v = cond (ltb v bar_count) (Ok (slot v)) (Err refusal.BadDeviceOrSlot)

-- a slot's place in an array of six
abbrev pub index_of : Slot → ℕ
index_of s = s.0 % bar_count

-- a slot's register: 0x10 + 4 · slot
abbrev pub register_of : Slot → ℕ
register_of s = bar_start + bar_register_size * s.0

abbrev pub offset : ℕ → ConfigOffset
offset v = record { 0 = v }

-- an offset lies in a config space of `space` bytes, or is none
unfoldable pub offset_of : ℕ → ℕ → Option ConfigOffset
offset_of space v = cond (ltb v space) (Some (offset v)) None
