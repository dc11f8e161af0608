-- The rows of document 01's table that what a field says can meet, each as one question about it and about what is declared so far.
use Rattle.std.specs.Prelude.{Bool, false, not, ◌||◌, List, [], ◌∷◌, leb, eqb, is_some, is_none, is_err, Result, Ok, Err}
use Rattle.refusal.specs.declared.refusal.Refusal.{Refusal}
use Rattle.refusal.specs.declared.refusal.Refusal.TheVariants as refusal
use Rattle.word.specs.Search.{all_below}
use Rattle.address.specs.Layout.{bar_count, absent_vendor_id}
use Rattle.address.specs.Limits.{Limits}
use Rattle.bar.specs.Range.{four_gib, aperture_ok}
use Rattle.bar.specs.Bar.{size_ok}
use Rattle.capability.specs.Size.{too_long}
use Rattle.capability.specs.BadEffect.{effect_bad}
use Rattle.declaration.specs.Check.{Check, ◌when◌}
use Rattle.declaration.specs.Standing.{has_function, has_capability, has_intx, slot_used, device_bad}
use Rattle.declaration.specs.declared.said.Said.{Said}
use Rattle.declaration.specs.declared.said.Said.TheVariants.{Aperture, Function as NewFunction, Intx as NewIntx, Bar, ConfigByte, Capability, Effect}
use Rattle.declaration.specs.declared.so_far.SoFar.{SoFar}

-- whether a row holds of what is said; of a badly formed body no row but 2 does
abbrev pub says : (Said → Bool) → Result Said Refusal → Bool
says row (Ok f) = row f
says row (Err r) = false

-- 10: "capability body above 253 bytes"
abbrev pub is_long_body : Said → Bool
is_long_body (Aperture start end) = false
is_long_body (NewFunction device identity) = false
is_long_body (NewIntx pin line) = false
is_long_body (Bar slot size request) = false
is_long_body (ConfigByte offset value mask) = false
is_long_body (Capability id length) = too_long length
is_long_body (Effect id offset length access) = false

-- 2: "byte outside its set, automatic address not zero"
abbrev pub is_bad_form : Result Said Refusal → Bool
is_bad_form f = is_err f

-- 3: "Tag 1 comes first, once. Tags 3 to 6 belong to the latest function, tag 7 to the latest capability of that function; tag 3 at most once each."
abbrev pub is_out_of_order : SoFar → Said → Bool
is_out_of_order s (Aperture start end) = is_some s.aperture
is_out_of_order s (NewFunction device identity) = is_none s.aperture
is_out_of_order s (NewIntx pin line) = not (has_function s) || has_intx s
is_out_of_order s (Bar slot size request) = not (has_function s)
is_out_of_order s (ConfigByte offset value mask) = not (has_function s)
is_out_of_order s (Capability id length) = not (has_function s)
is_out_of_order s (Effect id offset length access) = not (has_function s) || not (has_capability s)

-- 4: "one more than a limit above"
abbrev pub is_above_limit : Limits → SoFar → Said → Bool
is_above_limit l s (Aperture start end) = false
is_above_limit l s (NewFunction device identity) = leb l.functions s.count
is_above_limit l s (NewIntx pin line) = false
is_above_limit l s (Bar slot size request) = all_below (slot_used s.function) bar_count
is_above_limit l s (ConfigByte offset value mask) = leb l.config_bytes s.function.contents.byte_count
is_above_limit l s (Capability id length) = leb l.capabilities s.function.capabilities.count
is_above_limit l s (Effect id offset length access) = leb l.effects s.function.capabilities.effect_count

-- 5: "device above 31 or declared twice; slot above 5 or used twice in the function"
abbrev pub is_bad_device_or_slot : SoFar → Said → Bool
is_bad_device_or_slot s (Aperture start end) = false
is_bad_device_or_slot s (NewFunction device identity) = device_bad s device
is_bad_device_or_slot s (NewIntx pin line) = false
is_bad_device_or_slot s (Bar slot size request) = leb bar_count slot || slot_used s.function slot
is_bad_device_or_slot s (ConfigByte offset value mask) = false
is_bad_device_or_slot s (Capability id length) = false
is_bad_device_or_slot s (Effect id offset length access) = false

-- 6: "vendor 0xffff"
abbrev pub is_absent_vendor : Said → Bool
is_absent_vendor (Aperture start end) = false
is_absent_vendor (NewFunction device identity) = eqb identity.vendor absent_vendor_id
is_absent_vendor (NewIntx pin line) = false
is_absent_vendor (Bar slot size request) = false
is_absent_vendor (ConfigByte offset value mask) = false
is_absent_vendor (Capability id length) = false
is_absent_vendor (Effect id offset length access) = false

-- 7: "size below 16, not a power of two, or above 4 GiB"
abbrev pub is_bad_size : Said → Bool
is_bad_size (Aperture start end) = false
is_bad_size (NewFunction device identity) = false
is_bad_size (NewIntx pin line) = false
is_bad_size (Bar slot size request) = not (size_ok size)
is_bad_size (ConfigByte offset value mask) = false
is_bad_size (Capability id length) = false
is_bad_size (Effect id offset length access) = false

-- 8: "not start < end, or end above 4 GiB"
abbrev pub is_bad_aperture : Said → Bool
is_bad_aperture (Aperture start end) = not (aperture_ok four_gib start end)
is_bad_aperture (NewFunction device identity) = false
is_bad_aperture (NewIntx pin line) = false
is_bad_aperture (Bar slot size request) = false
is_bad_aperture (ConfigByte offset value mask) = false
is_bad_aperture (Capability id length) = false
is_bad_aperture (Effect id offset length access) = false

-- 11: "effect empty, starts before 2, ends after its capability, overlaps an earlier one there, or covers a byte with mask not zero"
abbrev pub is_bad_effect : SoFar → Said → Bool
is_bad_effect s (Aperture start end) = false
is_bad_effect s (NewFunction device identity) = false
is_bad_effect s (NewIntx pin line) = false
is_bad_effect s (Bar slot size request) = false
is_bad_effect s (ConfigByte offset value mask) = false
is_bad_effect s (Capability id length) = false
is_bad_effect s (Effect id offset length access) = effect_bad s.mask s.function.capabilities offset length

-- ".. other cases of 2, then 3, 4, 5, 6, 7, 8, 11"
abbrev pub rule_checks : Limits → SoFar → Result Said Refusal → List Check
rule_checks l s f =
    (refusal.BadForm when is_bad_form f) ∷
    (refusal.OutOfOrder when says (is_out_of_order s) f) ∷
    (refusal.AboveLimit when says (is_above_limit l s) f) ∷
    (refusal.BadDeviceOrSlot when says (is_bad_device_or_slot s) f) ∷
    (refusal.AbsentVendor when says is_absent_vendor f) ∷
    (refusal.BadSize when says is_bad_size f) ∷
    (refusal.BadAperture when says is_bad_aperture f) ∷
    (refusal.BadEffect when says (is_bad_effect s) f) ∷
    []

-- for a body that was not framed too: 10 first, then these
abbrev pub field_checks : Limits → SoFar → Result Said Refusal → List Check
field_checks l s f = (refusal.LongBody when says is_long_body f) ∷ rule_checks l s f
