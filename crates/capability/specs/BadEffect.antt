-- Refusal 11 of document 01: "effect empty, starts before 2, ends after its capability, overlaps an earlier one there, or covers a byte with mask not zero", as tests of the w bytes from o on of a capability.
use Rattle.std.specs.Prelude.{ℕ, ◌+◌, ◌-◌, Bool, ◌&&◌, ◌||◌, not, cond, List, ltb, eqb, get_or}
use Rattle.word.specs.Search.{any_below}
use Rattle.word.specs.Interval.{overlap}
use Rattle.capability.specs.Size.{header_size}
use Rattle.capability.specs.Effect.{no_effect}
use Rattle.capability.specs.Declaration.{effect_count_of, length_at, latest}
use Rattle.capability.specs.declared.effect.Effect.{Effect}
use Rattle.capability.specs.declared.declared.Capabilities.{Capabilities}

-- "effect empty"
abbrev pub is_empty : ℕ → Bool
is_empty w = eqb w 0

-- "starts before 2"
abbrev pub starts_early : ℕ → Bool
starts_early o = ltb o header_size

-- "ends after its capability", whose body has `body` bytes
abbrev pub ends_late : ℕ → ℕ → ℕ → Bool
ends_late body o w = ltb (header_size + body) (o + w)

-- "overlaps an earlier one there": an effect of capability k too
abbrev pub clashes : Effect → ℕ → ℕ → ℕ → Bool
clashes e k o w = eqb e.capability k && overlap o w e.offset e.length

-- one of the first n does
unfoldable pub overlaps_earlier : List Effect → ℕ → ℕ → ℕ → ℕ → Bool
overlaps_earlier effects n k o w = any_below (λ i. clashes (get_or effects i no_effect) k o w) n

-- the write mask of byte p of a capability whose body has the masks `mask`: the header is read-only, and so is what the list lacks
abbrev pub mask_at : List ℕ → ℕ → ℕ
mask_at mask p = cond (ltb p header_size) 0 (get_or mask (p - header_size) 0)

-- "covers a byte with mask not zero"
unfoldable pub covers_writable : List ℕ → ℕ → ℕ → Bool
covers_writable mask o w = any_below (λ i. not (eqb (mask_at mask (o + i)) 0)) w

-- one of the five, for the latest capability, whose body has the masks `mask`
unfoldable pub effect_bad : List ℕ → Capabilities → ℕ → ℕ → Bool
effect_bad mask d o w =
    is_empty w ||
    (starts_early o || (ends_late (length_at d (latest d)) o w || (overlaps_earlier d.effects (effect_count_of d) (latest d) o w || covers_writable mask o w)))
