-- The numbers of an effect's access: each access has its own, and no other number has one.
use Prim.Native.Nat.{ℕ}
use mathlib.Core.Bool.{Bool, true, false, cond}
use mathlib.Core.Logic.{⊎_elim}
use mathlib.Core.Path.{◌≡◌, refl, sym, ◌∙◌}
use borrow.Author.Tests.{ne_eqb}
use lib.Dec.{eqb}
use Rattle.std.proofs.Common.{Ok, Err}
use Rattle.word.proofs.Tests.{same_or_not}
use Rattle.refusal.specs.declared.refusal.Refusal.{Refusal}
use Rattle.refusal.specs.declared.refusal.Refusal.TheVariants as refusal
use Rattle.capability.specs.Effect.{access_read, access_write, access_both, effect_access_number, access_of_number}
use Rattle.capability.specs.Touch.{allows}
use Rattle.capability.specs.declared.effect.EffectAccess.{EffectAccess}
use Rattle.capability.specs.declared.effect.EffectAccess.TheVariants.{Read, Write, ReadWrite}

neither : (n : ℕ) (write : Bool) → eqb n access_read ≡ false → eqb n access_write ≡ false → eqb n (cond write access_write access_read) ≡ false
neither n true r w = w
neither n false r w = r

-- an access is the one that its number has
pub access_number_lem : (a : EffectAccess) → access_of_number (effect_access_number a) ≡ Ok a
unfolding access_of_number
access_number_lem Read = refl
access_number_lem Write = refl
access_number_lem ReadWrite = refl

-- and a number that none has gives no access
pub access_unnumbered : (n : ℕ) → (n ≡ access_read → ⊥) → (n ≡ access_write → ⊥) → (n ≡ access_both → ⊥) → access_of_number n ≡ Err refusal.BadForm
unfolding access_of_number
access_unnumbered n r w b = rw (ne_eqb n access_read r, ne_eqb n access_write w, ne_eqb n access_both b)

pub access_none : (n : ℕ) → ((a : EffectAccess) → n ≡ effect_access_number a → ⊥) → access_of_number n ≡ Err refusal.BadForm
access_none n h = access_unnumbered n (h Read) (h Write) (h ReadWrite)

-- a number that has an access is that one's
pub number_is : (n : ℕ) (a : EffectAccess) → access_of_number n ≡ Ok a → n ≡ effect_access_number a
unfolding access_of_number
number_is n a h =
    ⊎_elim (λ (e : n ≡ access_read). let q : Ok Read ≡ Ok a = rw e at h in let g : Read ≡ a = cc in rw (← g) e)
    (λ (r : n ≡ access_read → ⊥).
    ⊎_elim (λ (e : n ≡ access_write). let q : Ok Write ≡ Ok a = rw e at h in let g : Write ≡ a = cc in rw (← g) e)
    (λ (w : n ≡ access_write → ⊥).
    ⊎_elim (λ (e : n ≡ access_both). let q : Ok ReadWrite ≡ Ok a = rw e at h in let g : ReadWrite ≡ a = cc in rw (← g) e)
    (λ (b : n ≡ access_both → ⊥).
    let q : Err refusal.BadForm ≡ Ok a = sym (access_unnumbered n r w b) ∙ h in absurd (cc))
    (same_or_not n access_both))
    (same_or_not n access_write))
    (same_or_not n access_read)

-- and one that has none allows neither direction
pub refused_number : (n : ℕ) (r : Refusal) → access_of_number n ≡ Err r → (write : Bool) → allows write n ≡ false
unfolding access_of_number allows
refused_number n r h write =
    let read : n ≡ access_read → ⊥ = λ e. let q : Ok Read ≡ Err r = rw e at h in (cc) in
    let wrote : n ≡ access_write → ⊥ = λ e. let q : Ok Write ≡ Err r = rw e at h in (cc) in
    let both : n ≡ access_both → ⊥ = λ e. let q : Ok ReadWrite ≡ Err r = rw e at h in (cc) in
    rw (ne_eqb n access_both both) (neither n write (ne_eqb n access_read read) (ne_eqb n access_write wrote))
