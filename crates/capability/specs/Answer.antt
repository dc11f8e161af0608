-- What an effect's answer says of the access: `touch_answer` shows it of every answer, and `read_answer_lem`, `write_answer_lem` (config) and `bus_read_answer`, `bus_write_answer` (bus) of what is handed on.
use Rattle.std.specs.Prelude.{ℕ, ◌+◌, ◌<◌, ◌≤◌, Bool, true, ◌≡◌}
use Rattle.capability.specs.Owner.{effect_count, capability_at, effect_at, start_of}
use Rattle.capability.specs.Touch.{allows}
use Rattle.capability.specs.declared.placed.Placed.{Placed}
use Rattle.capability.specs.declared.effect_access.EffectHit.{EffectHit}

-- it is the effect at an index, which allows the direction; the id is its capability's; one offset leads from the capability's start to the access, the other from the region's own, and there (document 02, R-9) "this offset plus the width is at most the region's length"
pub record Answer (p : Placed) (o w : ℕ) (write : Bool) (hit : EffectHit) : Type 0 where
  pub index : ℕ
  pub below : index < effect_count p
  pub is_region : hit.region ≡ effect_at p index
  pub is_id : hit.capability_id ≡ (capability_at p hit.region.capability).id
  pub allowed : allows write hit.region.access ≡ true
  pub from_capability : start_of p hit.region.capability + hit.offset ≡ o
  pub from_region : hit.region.offset + hit.region_offset ≡ hit.offset
  pub fits : hit.region_offset + w ≤ hit.region.length
