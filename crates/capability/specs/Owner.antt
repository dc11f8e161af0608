-- Where capabilities and the regions of their effects lie in config space, and which effect owns a byte (document 01, "Power-on image" and "Access and reset").
use Rattle.std.specs.Prelude.{Option, Some, None, ℕ, ◌+◌, Bool, List, length, get_or, take}
use Rattle.word.specs.Search.{all_below, first_of}
use Rattle.word.specs.Interval.{covers, overlap}
use Rattle.capability.specs.Blank.{no_placed_capability, no_placed_effect}
use Rattle.capability.specs.declared.placed.Placed.{Placed}
use Rattle.capability.specs.declared.placed.PlacedCapability.{PlacedCapability}
use Rattle.capability.specs.declared.placed.PlacedEffect.{PlacedEffect}

-- the capabilities and the effects of a function: as many as are counted and kept
abbrev pub capabilities_of : Placed → List PlacedCapability
capabilities_of p = take p.count p.capabilities

abbrev pub effects_of : Placed → List PlacedEffect
effects_of p = take p.effect_count p.effects

abbrev pub capability_count : Placed → ℕ
capability_count p = length (capabilities_of p)

abbrev pub effect_count : Placed → ℕ
effect_count p = length (effects_of p)

-- the one at an index, a blank past the last
abbrev pub capability_at : Placed → ℕ → PlacedCapability
capability_at p i = get_or (capabilities_of p) i no_placed_capability

abbrev pub effect_at : Placed → ℕ → PlacedEffect
effect_at p i = get_or (effects_of p) i no_placed_effect

-- where the capability at an index starts, 0 past the last
abbrev pub start_of : Placed → ℕ → ℕ
start_of p i = (capability_at p i).offset.0

-- an effect's region starts at its offset from its capability's start
unfoldable pub region_start : Placed → PlacedEffect → ℕ
region_start p e = start_of p e.capability + e.offset

-- where the region of the effect at index i starts and ends
abbrev pub region_from : Placed → ℕ → ℕ
region_from p i = region_start p (effect_at p i)

abbrev pub region_to : Placed → ℕ → ℕ
region_to p i = region_from p i + (effect_at p i).length

-- whether config byte j lies in it
unfoldable pub in_region : Placed → ℕ → ℕ → Bool
in_region p j i = covers (region_from p i) (effect_at p i).length j

-- the effect that owns byte j: the first whose region covers it (regions never overlap in what the layout gives, so it is the only one: `owner_covers`)
unfoldable pub owner_of : Placed → ℕ → Option ℕ
owner_of p j = first_of Some None (in_region p j) (effect_count p)

-- the walk over the effects: whether some byte, or every byte, of the access lies in the region of the effect at index i, and the first that is touched
unfoldable pub touches : Placed → ℕ → ℕ → ℕ → Bool
touches p o w i = overlap o w (region_from p i) (effect_at p i).length

unfoldable pub holds : Placed → ℕ → ℕ → ℕ → Bool
holds p o w i = all_below (λ k. in_region p (o + k) i) w

unfoldable pub first_touched : Placed → ℕ → ℕ → Option ℕ
first_touched p o w = first_of Some None (touches p o w) (effect_count p)
