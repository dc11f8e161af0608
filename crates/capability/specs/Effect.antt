-- Effects as they are declared (document 01, tag 7).
use Rattle.std.specs.Prelude.{Result, Ok, Err, ℕ, cond, eqb}
use Rattle.refusal.specs.declared.refusal.Refusal.{Refusal}
use Rattle.refusal.specs.declared.refusal.Refusal.TheVariants as refusal
use Rattle.capability.specs.declared.effect.EffectAccess.{EffectAccess}
use Rattle.capability.specs.declared.effect.EffectAccess.TheVariants.{Read, Write, ReadWrite}
use Rattle.capability.specs.declared.effect.Effect.{Effect}

-- "access 1 (1 read, 2 write, 3 both)"
abbrev pub access_read : ℕ
access_read = 1

abbrev pub access_write : ℕ
access_write = 2

abbrev pub access_both : ℕ
access_both = 3

abbrev pub effect_access_number : EffectAccess → ℕ
effect_access_number Read = access_read
effect_access_number Write = access_write
effect_access_number ReadWrite = access_both

-- the access that has the number; any other number has none
unfoldable pub access_of_number : ℕ → Result EffectAccess Refusal
access_of_number n =
    cond (eqb n access_read) (Ok Read) (cond (eqb n access_write) (Ok Write) (cond (eqb n access_both) (Ok ReadWrite) (Err refusal.BadForm)))

-- an effect of the capability at index k: its w bytes from o on
abbrev pub effect : ℕ → ℕ → ℕ → ℕ → EffectAccess → Effect
effect id k o w a = record { id = id; capability = k; offset = o; length = w; access = a }

-- what stands past the last effect of a list
abbrev pub no_effect : Effect
no_effect = effect 0 0 0 0 Read
