-- A function's read and write hand on what the capability's answer says of the access. Each is taken by its cases; only an effect's answer says anything.
use Rattle.std.specs.Prelude.{Result, Ok, Err}
use Prim.Native.Nat.{ℕ}
use mathlib.Core.Bool.{true, false}
use mathlib.Core.Logic.{⊎_elim}
use mathlib.Core.Path.{◌≡◌, refl, subst}
use Rattle.std.proofs.Common.{Some, None, Ok, Err}
use Rattle.word.proofs.Tests.{true_or_false}
use Rattle.address.specs.Check.{access_of}
use Rattle.address.specs.declared.access.Access.{Access}
use Rattle.address.proofs.Accesses.{access_is}
use Rattle.capability.specs.Touch.{touch_of, Touch}
use Rattle.capability.specs.Answer.{Answer}
use Rattle.capability.specs.declared.effect_access.EffectHit.{EffectHit}
use Rattle.capability.specs.declared.snapshot.Snapshot.{Snapshot}
use Rattle.capability.proofs.Answers.{touch_answer}
use Rattle.config.specs.Space.{space_of}
use Rattle.config.specs.State.{in_bar}
use Rattle.config.specs.Read.{read_touched, read_good, read_checked, read_of}
use Rattle.config.specs.Write.{write_of}
use Rattle.config.specs.declared.state.FunctionState.{FunctionState}
use Rattle.config.specs.declared.read_step.ReadAnswer.{ReadAnswer}
use Rattle.config.specs.declared.read_step.ReadAnswer.TheVariants as read_answer
use Rattle.config.specs.declared.write_step.WriteAnswer.{WriteAnswer}
use Rattle.config.specs.declared.write_step.WriteAnswer.TheVariants as write_answer
use Rattle.config.proofs.Reading.{read_register, read_elsewhere}
use Rattle.config.proofs.WriteCases.{write_by_lem}
use Rattle.refusal.specs.declared.refusal.Refusal.{Refusal}

module _ (f : FunctionState) (o w : ℕ) where
  abbrev ReadTold : Result ReadAnswer Refusal → Type 0
  ReadTold (Ok (read_answer.Value v)) = Unit {0}
  ReadTold (Ok (read_answer.Effect hit body)) = Answer f.placed o w false hit
  ReadTold (Err r) = Unit {0}

  touched : (t : Touch) → touch_of f.placed o w false ≡ t → ReadTold (read_touched f o w t)
  touched (Ok None) e = tt
  touched (Ok (Some hit)) e = touch_answer f.placed o w false hit e
  touched (Err r) e = tt

  good : ReadTold (read_good f o w)
  good =
      ⊎_elim (λ (t : in_bar f.bars o ≡ true). rw (read_register f o w t) tt)
      (λ (t : in_bar f.bars o ≡ false). rw (read_elsewhere f o w t) (touched (touch_of f.placed o w false) refl))
      (true_or_false (in_bar f.bars o))

  checked : (x : Result Access Refusal) → access_of (space_of f) o w ≡ x → ReadTold (read_checked f x)
  checked (Err r) e = tt
  checked (Ok a) e = let r = access_is (space_of f) o w a.offset a.width e in rw (r.1, r.2) good

  read_told : ReadTold (read_of f o w)
  unfolding read_of
  read_told = checked (access_of (space_of f) o w) refl

  abbrev WriteTold : Result WriteAnswer Refusal → Type 0
  WriteTold (Ok write_answer.Stored) = Unit {0}
  WriteTold (Ok (write_answer.Probing slot)) = Unit {0}
  WriteTold (Ok (write_answer.Candidate slot address)) = Unit {0}
  WriteTold (Ok (write_answer.Effect hit body)) = Answer f.placed o w true hit
  WriteTold (Err r) = Unit {0}

  write_told : (v : ℕ) → WriteTold (write_of f o w v).answer
  write_told v =
      write_by_lem (λ d. WriteTold d.answer) f o w v
      (record {
        bad_access = λ x. tt;
        probing = λ x y. tt;
        candidate = λ x y a g. tt;
        effect = λ x y hit e. touch_answer f.placed o w true hit e;
        bad_effect = λ x y g. tt;
        exhausts = λ x y g. tt;
        stores = λ x y u g. tt;
      })

  module _ (hit : EffectHit) (body : Snapshot) where
    pub read_answer_lem : read_of f o w ≡ Ok (read_answer.Effect hit body) → Answer f.placed o w false hit
    read_answer_lem e = subst ReadTold e read_told

    pub write_answer_lem : (v : ℕ) → (write_of f o w v).answer ≡ Ok (write_answer.Effect hit body) → Answer f.placed o w true hit
    write_answer_lem v e = subst WriteTold e (write_told v)
