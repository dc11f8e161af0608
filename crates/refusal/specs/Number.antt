-- Document 01's refusal numbers, under a name each, with the words of its table ("Refusal numbers"). No other definition spells one of them, but for the P cases, which have the document's own numbers.
use Rattle.std.specs.Prelude.{ℕ, List, [], ◌∷◌}

-- nothing is refused
abbrev pub accepted : ℕ
accepted = 0

-- header or body of a field is cut
abbrev pub field_cut : ℕ
field_cut = 1

-- unknown tag, wrong length (even or zero for tag 6), byte outside its set, automatic address not zero
abbrev pub bad_form : ℕ
bad_form = 2

-- field out of order or repeated; file ends with no aperture
abbrev pub out_of_order : ℕ
out_of_order = 3

-- one more than a limit
abbrev pub above_limit : ℕ
above_limit = 4

-- device above 31 or declared twice; slot above 5 or used twice in the function
abbrev pub bad_device_or_slot : ℕ
bad_device_or_slot = 5

-- vendor 0xffff
abbrev pub absent_vendor : ℕ
absent_vendor = 6

-- size below 16, not a power of two, or above 4 GiB
abbrev pub bad_size : ℕ
bad_size = 7

-- not start < end, or end above 4 GiB
abbrev pub bad_aperture : ℕ
bad_aperture = 8

-- config byte not at 0x0c, 0x0d, 0x3c or in 0x40 to 0xff outside every capability
abbrev pub bad_config_byte : ℕ
bad_config_byte = 9

-- capability body above 253 bytes (length above 507)
abbrev pub long_body : ℕ
long_body = 10

-- effect empty, starts before 2, ends after its capability, overlaps an earlier one there, or covers a byte with mask not zero
abbrev pub bad_effect : ℕ
bad_effect = 11

-- effect id repeated in the function
abbrev pub repeated_effect : ℕ
repeated_effect = 12

-- a capability would end after 0x100
abbrev pub past_space : ℕ
past_space = 13

-- fixed address not a multiple of size
abbrev pub not_multiple : ℕ
not_multiple = 14

-- fixed range outside the aperture or past 64 bits
abbrev pub outside_aperture : ℕ
outside_aperture = 15

-- fixed range overlaps one placed before
abbrev pub overlaps_placed : ℕ
overlaps_placed = 16

-- no free place for an automatic BAR
abbrev pub no_place : ℕ
no_place = 17

-- access: offset 0x100 or more, width not 1, 2, 4, or offset not a multiple of width; memory lookup: width not 1, 2, 4, 8
abbrev pub bad_access : ℕ
bad_access = 18

-- access touches an effect but isn't inside it, or its direction isn't allowed
abbrev pub bad_touch : ℕ
bad_touch = 19

-- revision counter at its largest
abbrev pub exhausted : ℕ
exhausted = 20

-- all of them, in order
abbrev pub numbers : List ℕ
numbers = accepted ∷ field_cut ∷ bad_form ∷ out_of_order ∷ above_limit ∷ bad_device_or_slot ∷ absent_vendor ∷ bad_size ∷ bad_aperture ∷ bad_config_byte ∷ long_body ∷ bad_effect ∷ repeated_effect ∷ past_space ∷ not_multiple ∷ outside_aperture ∷ overlaps_placed ∷ no_place ∷ bad_access ∷ bad_touch ∷ exhausted ∷ []
