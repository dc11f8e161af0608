-- Accesses to effects and modes of bytes, as numbers.
use Rattle.std.specs.Prelude.{Option, Some, None, ℕ, Bool, true, false, List, Ok, Err, Result}
use Rattle.refusal.specs.Number.{accepted}
use Rattle.refusal.specs.Refusal.{number_of}
use Rattle.address.specs.declared.offset.ConfigOffset.{ConfigOffset}
use Rattle.address.specs.declared.access.Access.{Access}
use Rattle.capability.specs.Blank.{no_placed_effect}
use Rattle.capability.specs.Touch.{touch_of, Touch}
use Rattle.capability.specs.Mode.{byte_mode_of}
use Rattle.capability.specs.declared.placed.Placed.{Placed}
use Rattle.capability.specs.declared.byte_mode.ByteMode.{ByteMode}
use Rattle.capability.specs.declared.byte_mode.ByteMode.TheVariants as mode
use Rattle.harness.specs.declared.effects.Touched.{Touched}
use Rattle.refusal.specs.declared.refusal.Refusal.{Refusal}

-- inside no effect: all but the refusal is blank
abbrev pub touched_none : ℕ → Touched
touched_none n = record { refusal = n; inside = false; capability_id = 0; region = no_placed_effect; offset = 0; region_offset = 0 }

-- untouched and refused differ by the number alone; an effect is told with "capability id, region, offset from the capability's start" and from the region's own
abbrev pub touch_numbers : Touch → Touched
touch_numbers (Ok None) = touched_none accepted
touch_numbers (Ok (Some hit)) =
    record { refusal = accepted; inside = true; capability_id = hit.capability_id; region = hit.region; offset = hit.offset; region_offset = hit.region_offset }
touch_numbers (Err r) = touched_none (number_of r)

-- "Check 18 first."
abbrev pub touch_checked : Placed → Bool → Result Access Refusal → Touched
touch_checked p write (Err r) = touched_none (number_of r)
touch_checked p write (Ok a) = touch_numbers (touch_of p a.offset.0 a.width write)

-- a number for each mode
abbrev pub mode_number : Option ByteMode → ℕ
mode_number None = 0
mode_number (Some mode.Constant) = 1
mode_number (Some mode.StoredMasked) = 2
mode_number (Some mode.EffectOnly) = 3

-- an offset of 0x100 or more is outside
abbrev pub mode_at : Placed → List ℕ → Option ConfigOffset → ℕ
mode_at p mask None = mode_number None
mode_at p mask (Some o) = mode_number (byte_mode_of p mask o.0)
