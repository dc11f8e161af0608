-- What a body can say: what is shown of each form that the table allows is so of what any body says.
use Prim.Native.Nat.{ℕ, ◌≤◌}
use mathlib.Core.Bool.{Bool, true, false, ◌&&◌, cond}
use mathlib.Core.List.{List}
use mathlib.Core.Path.{◌≡◌, refl}
use borrow.Author.Tests.{leb-true}
use lib.Dec.{eqb, leb}
use lib.ListN.{length}
use Rattle.std.specs.Prelude.{Option, Some, None, Result, Ok, Err}
use Rattle.refusal.specs.declared.refusal.Refusal.{Refusal}
use Rattle.refusal.specs.declared.refusal.Refusal.TheVariants.{BadForm}
use Rattle.word.specs.Number.{read_at}
use Rattle.word.proofs.Tests.{and_left, and_right}
use Rattle.bar.specs.declared.memory_bar.Request.TheVariants as request
use Rattle.capability.specs.Effect.{access_read, access_write, access_both, access_of_number}
use Rattle.capability.specs.declared.effect.EffectAccess.{EffectAccess}
use Rattle.capability.specs.declared.effect.EffectAccess.TheVariants.{Read, Write, ReadWrite}
use Rattle.declaration.specs.Said.{byte_in, identity_in, intx_said, automatic_said, fixed_said, bar_said, access_said, said_by, said_tagged, said_of}
use Rattle.declaration.specs.Tag.{tag_of, allows, capability_body}
use Rattle.declaration.specs.declared.said.Said.{Said}
use Rattle.declaration.specs.declared.said.Said.TheVariants as said
use Rattle.declaration.specs.declared.tag.Tag.{Tag}
use Rattle.declaration.specs.declared.tag.Tag.TheVariants as tags

-- an access that is none is badly formed
or_bad : (t : Bool) (a : EffectAccess) (x : Result EffectAccess Refusal) (r : Refusal) → (x ≡ Err r → r ≡ BadForm) → cond t (Ok a) x ≡ Err r → r ≡ BadForm
or_bad true a x r h e = cc
or_bad false a x r h e = h e

bad_access : (n : ℕ) (r : Refusal) → access_of_number n ≡ Err r → r ≡ BadForm
unfolding access_of_number
bad_access n r = or_bad (eqb n access_read) Read _ r (or_bad (eqb n access_write) Write _ r (or_bad (eqb n access_both) ReadWrite (Err BadForm) r (λ e. cc)))

-- every form, of a body with a tag
pub record Forms (tag : ℕ) (body : List ℕ) (P : Result Said Refusal → Type 0) : Type 0 where
  pub aperture : P (Ok (said.Aperture (read_at body 0 8) (read_at body 8 8)))
  pub function : P (Ok (said.Function (byte_in body 0) (identity_in body)))
  pub intx : 1 ≤ byte_in body 0 → byte_in body 0 ≤ 4 → P (Ok (said.Intx (byte_in body 0) (byte_in body 1)))
  pub automatic : P (Ok (said.Bar (byte_in body 0) (read_at body 2 8) request.Auto))
  pub fixed : P (Ok (said.Bar (byte_in body 0) (read_at body 2 8) (request.Fixed (read_at body 10 8))))
  pub config_byte : P (Ok (said.ConfigByte (byte_in body 0) (byte_in body 1) (byte_in body 2)))
  pub capability : tag_of tag ≡ Some tags.Capability → allows tags.Capability (length body) ≡ true → P (Ok (said.Capability (byte_in body 0) (capability_body (length body))))
  pub effect : (a : EffectAccess) → P (Ok (said.Effect (read_at body 0 2) (byte_in body 2) (byte_in body 3) a))
  pub bad : P (Err BadForm)

chosen : (P : Result Said Refusal → Type 0) (t : Bool) (x y : Result Said Refusal) → (t ≡ true → P x) → P y → P (cond t x y)
chosen P true x y h k = h refl
chosen P false x y h k = k

module _ (tag : ℕ) (body : List ℕ) (P : Result Said Refusal → Type 0) (f : Forms tag body P) where
  by_intx : P (intx_said body)
  by_intx =
      let low = leb 1 (byte_in body 0) in
      let high = leb (byte_in body 0) 4 in
      chosen P (low && high) (Ok (said.Intx (byte_in body 0) (byte_in body 1))) (Err BadForm) (λ e. f.intx (leb-true 1 (byte_in body 0) (and_left low high e)) (leb-true (byte_in body 0) 4 (and_right low high e))) f.bad

  by_automatic : P (automatic_said body)
  by_automatic = chosen P (eqb (read_at body 10 8) 0) (Ok (said.Bar (byte_in body 0) (read_at body 2 8) request.Auto)) (Err BadForm) (λ e. f.automatic) f.bad

  by_bar : P (bar_said body)
  by_bar =
      chosen P (eqb (byte_in body 1) 0) (automatic_said body) (cond (eqb (byte_in body 1) 1) (Ok (fixed_said body)) (Err BadForm)) (λ e. by_automatic)
      (chosen P (eqb (byte_in body 1) 1) (Ok (fixed_said body)) (Err BadForm) (λ e. f.fixed) f.bad)

  by_access : (a : Result EffectAccess Refusal) → access_of_number (byte_in body 4) ≡ a → P (access_said body a)
  by_access (Ok a) e = f.effect a
  by_access (Err r) e = rw (bad_access (byte_in body 4) r e) f.bad

  by_tag : (t : Tag) → tag_of tag ≡ Some t → allows t (length body) ≡ true → P (said_by t body)
  by_tag tags.Aperture e allowed = f.aperture
  by_tag tags.Function e allowed = f.function
  by_tag tags.Intx e allowed = by_intx
  by_tag tags.Bar e allowed = by_bar
  by_tag tags.ConfigByte e allowed = f.config_byte
  by_tag tags.Capability e allowed = f.capability e allowed
  by_tag tags.Effect e allowed = by_access (access_of_number (byte_in body 4)) refl

  by_tagged : (o : Option Tag) → tag_of tag ≡ o → P (said_tagged o body)
  by_tagged None e = f.bad
  by_tagged (Some t) e = chosen P (allows t (length body)) (said_by t body) (Err BadForm) (by_tag t e) f.bad

  pub by_form : P (said_of tag body)
  unfolding said_of
  by_form = by_tagged (tag_of tag) refl

-- what is badly formed is 2
pub said_refusal : (tag : ℕ) (body : List ℕ) (r : Refusal) → said_of tag body ≡ Err r → r ≡ BadForm
said_refusal tag body r =
    by_form tag body (λ x. x ≡ Err r → r ≡ BadForm)
    (record { aperture = λ e. cc; function = λ e. cc; intx = λ a b e. cc; automatic = λ e. cc; fixed = λ e. cc; config_byte = λ e. cc; capability = λ a b e. cc; effect = λ a e. cc; bad = λ e. cc })
