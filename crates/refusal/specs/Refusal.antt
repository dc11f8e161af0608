-- The refusals as a type, with the number that document 01's table gives each.
use Rattle.std.specs.Prelude.{ℕ, Result, Ok, Err}
use Rattle.refusal.specs.Number.{accepted, field_cut, bad_form, out_of_order, above_limit, bad_device_or_slot, absent_vendor, bad_size, bad_aperture, bad_config_byte, long_body, bad_effect, repeated_effect, past_space, not_multiple, outside_aperture, overlaps_placed, no_place, bad_access, bad_touch, exhausted}
use Rattle.refusal.specs.declared.refusal.Refusal.{Refusal}
use Rattle.refusal.specs.declared.refusal.Refusal.TheVariants as refusal

-- the number of each
abbrev pub number_of : Refusal → ℕ
number_of refusal.FieldCut = field_cut
number_of refusal.BadForm = bad_form
number_of refusal.OutOfOrder = out_of_order
number_of refusal.AboveLimit = above_limit
number_of refusal.BadDeviceOrSlot = bad_device_or_slot
number_of refusal.AbsentVendor = absent_vendor
number_of refusal.BadSize = bad_size
number_of refusal.BadAperture = bad_aperture
number_of refusal.BadConfigByte = bad_config_byte
number_of refusal.LongBody = long_body
number_of refusal.BadEffect = bad_effect
number_of refusal.RepeatedEffect = repeated_effect
number_of refusal.PastSpace = past_space
number_of refusal.NotMultiple = not_multiple
number_of refusal.OutsideAperture = outside_aperture
number_of refusal.OverlapsPlaced = overlaps_placed
number_of refusal.NoPlace = no_place
number_of refusal.BadAccess = bad_access
number_of refusal.BadTouch = bad_touch
number_of refusal.RevisionExhausted = exhausted

-- the number of an answer: 0 where nothing is refused
abbrev pub answer_number : {A : Type 0} → Result A Refusal → ℕ
answer_number (Ok a) = accepted
answer_number (Err r) = number_of r
