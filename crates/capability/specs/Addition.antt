-- Declaring one more capability or effect. How many there may be is the parameter `l` (document 01's: address/specs/Limits.antt).
use Rattle.std.specs.Prelude.{Result, Ok, Err, ℕ, cond, List, leb, eqb}
use Rattle.refusal.specs.declared.refusal.Refusal.{Refusal}
use Rattle.refusal.specs.declared.refusal.Refusal.TheVariants as refusal
use Rattle.address.specs.Limits.{Limits}
use Rattle.capability.specs.Effect.{effect}
use Rattle.capability.specs.Declaration.{latest, with_capability, with_effect}
use Rattle.capability.specs.BadEffect.{effect_bad}
use Rattle.capability.specs.declared.effect.EffectAccess.{EffectAccess}
use Rattle.capability.specs.declared.declared.Capability.{Capability}
use Rattle.capability.specs.declared.declared.Capabilities.{Capabilities}

-- a capability declared after those of d, unless it is "one more than a limit"
unfoldable pub add_capability_of : Limits → Capabilities → Capability → Result Capabilities Refusal
add_capability_of l d c =
    cond (leb l.capabilities d.count) (Err refusal.AboveLimit) (Ok (with_capability d c))

-- an effect declared for the latest capability of d; "Order within a field: .. then 3, 4, .. 11"
unfoldable pub add_effect_of : Limits → List ℕ → Capabilities → ℕ → ℕ → ℕ → EffectAccess → Result Capabilities Refusal
add_effect_of l mask d id o w a =
    cond (eqb d.count 0) (Err refusal.OutOfOrder)
    (cond (leb l.effects d.effect_count) (Err refusal.AboveLimit)
    (cond (effect_bad mask d o w) (Err refusal.BadEffect) (Ok (with_effect d (effect id (latest d) o w a)))))
