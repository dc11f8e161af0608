-- Access to an effect, refusal 19 (document 01, "Access and reset": "an access that touches an effect follows 19, or is answered with capability id, region, offset from the capability's start").
use Rattle.std.specs.Prelude.{is_none, Option, Some, None, Result, Ok, Err, ℕ, ◌+◌, ◌-◌, Bool, false, ◌&&◌, ◌||◌, cond, eqb}
use Rattle.refusal.specs.declared.refusal.Refusal.{Refusal}
use Rattle.refusal.specs.declared.refusal.Refusal.TheVariants as refusal
use Rattle.word.specs.Search.{all_below}
use Rattle.capability.specs.Effect.{access_read, access_write, access_both}
use Rattle.capability.specs.Owner.{capability_at, effect_at, start_of, region_from, owner_of, holds}
use Rattle.capability.specs.declared.placed.Placed.{Placed}
use Rattle.capability.specs.declared.effect_access.EffectHit.{EffectHit}

-- whether an effect's access number allows a direction; one that is none of the three allows neither
unfoldable pub allows : Bool → ℕ → Bool
allows write a = eqb a access_both || eqb a (cond write access_write access_read)

-- whether an owner is the effect at index i
abbrev pub is_effect : ℕ → Option ℕ → Bool
is_effect i None = false
is_effect i (Some k) = eqb k i

-- what an access does: it touches no effect, or hits one, or is refused
abbrev pub Touch : Type 0
Touch = Result (Option EffectHit) Refusal

-- the answer of the effect at index i: its capability's id, its region, the access's offset from the capability's start, and (document 02, R-9) "the offset from the region's own start"
abbrev pub effect_hit : Placed → ℕ → ℕ → EffectHit
effect_hit p o i =
    record { capability_id = (capability_at p (effect_at p i).capability).id; region = effect_at p i; offset = o - start_of p (effect_at p i).capability; region_offset = o - region_from p i }

abbrev pub effect_answer : Placed → ℕ → ℕ → Touch
effect_answer p o i = Ok (Some (effect_hit p o i))

-- an access whose first byte has this owner: answered if that effect owns every byte and allows the direction
abbrev pub by_owner : Placed → ℕ → ℕ → Bool → Option ℕ → Touch
by_owner p o w write None = Err refusal.BadTouch
by_owner p o w write (Some i) =
    cond (all_below (λ k. is_effect i (owner_of p (o + k))) w && allows write (effect_at p i).access) (effect_answer p o i) (Err refusal.BadTouch)

-- an access of `w` bytes from `o` on: untouched if no byte has an owner (so an access of no bytes touches nothing)
unfoldable pub touch_of : Placed → ℕ → ℕ → Bool → Touch
touch_of p o w write = cond (all_below (λ k. is_none (owner_of p (o + k))) w) (Ok None) (by_owner p o w write (owner_of p o))

-- whether the effect at index i may answer an access: the access is inside it and its direction is allowed
abbrev pub answers : Placed → ℕ → ℕ → Bool → ℕ → Bool
answers p o w write i = holds p o w i && allows write (effect_at p i).access

-- the walk's answer at the effect i that the access touches first (`touch_decision` shows that it is touch_of's)
unfoldable pub decision : Placed → ℕ → ℕ → Bool → ℕ → Touch
decision p o w write i = cond (answers p o w write i) (effect_answer p o i) (Err refusal.BadTouch)
