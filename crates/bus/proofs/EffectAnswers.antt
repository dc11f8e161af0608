-- An effect's answer by device is that of the device's function: where no function is, no effect answers.
use Rattle.std.specs.Prelude.{Result, Ok, Err}
use Prim.Native.Nat.{ℕ, ◌<◌, ◌≤◌}
use mathlib.Core.Bool.{true, false}
use mathlib.Core.Logic.{⊎_elim}
use mathlib.Core.Path.{◌≡◌, refl, subst}
use native.Mathlib.Omega.{arith}
use Rattle.word.proofs.Tests.{below_or_not, true_or_false}
use Rattle.address.specs.Layout.{config_space_size}
use Rattle.address.specs.Check.{access_of}
use Rattle.address.specs.declared.access.Access.{Access}
use Rattle.capability.specs.Answer.{Answer}
use Rattle.capability.specs.declared.effect_access.EffectHit.{EffectHit}
use Rattle.capability.specs.declared.snapshot.Snapshot.{Snapshot}
use Rattle.config.specs.Write.{write_of}
use Rattle.config.specs.declared.state.FunctionState.{FunctionState}
use Rattle.config.specs.declared.read_step.ReadAnswer.TheVariants as read_answer
use Rattle.config.specs.declared.write_step.WriteAnswer.{WriteAnswer}
use Rattle.config.specs.declared.write_step.WriteAnswer.TheVariants as write_answer
use Rattle.config.proofs.EffectAnswers.{read_answer_lem, write_answer_lem}
use Rattle.bus.specs.Bus.{count_on, function_at, index_on}
use Rattle.bus.specs.Access.{absent_read, bus_read_of, accepts, stepped_on, absent_write, written_on, bus_write_of}
use Rattle.bus.specs.declared.state.Bus.{Bus}
use Rattle.bus.specs.declared.write_access.BusWriteAnswer.{BusWriteAnswer}
use Rattle.bus.specs.declared.write_access.BusWriteAnswer.TheVariants.{Stored, Dropped, Probing, Moved, Kept, Effect}
use Rattle.bus.specs.declared.write_access.WriteRefusal.{WriteRefusal}
use Rattle.bus.proofs.Dispatch.{read_declared, read_absent, write_declared, write_absent}
use Rattle.refusal.specs.declared.refusal.Refusal.{Refusal}

module _ (b : Bus) (device o w : ℕ) (hit : EffectHit) (body : Snapshot) where
  abbrev function : FunctionState
  function = function_at b (index_on b device)

  absent_read_lem : (x : Result Access Refusal) → (absent_read x ≡ Ok (read_answer.Effect hit body)) → ⊥
  absent_read_lem (Err r) e = let z : ◌≡◌ {A = ℕ} 0 1 = cc in omega arith
  absent_read_lem (Ok a) e = let z : ◌≡◌ {A = ℕ} 0 1 = cc in omega arith

  pub bus_read_answer : bus_read_of b device o w ≡ Ok (read_answer.Effect hit body) → Answer function.placed o w false hit
  bus_read_answer e =
      ⊎_elim (λ (h : index_on b device < count_on b). read_answer_lem function o w hit body (rw (read_declared b device o w h) at e))
      (λ (h : count_on b ≤ index_on b device). absurd (absent_read_lem (access_of config_space_size o w) (rw (read_absent b device o w h) at e)))
      (below_or_not (index_on b device) (count_on b))

-- what is shown of each answer to a write: nothing where it is no effect's
module _ (b : Bus) (k o w : ℕ) where
  abbrev Told : Result BusWriteAnswer WriteRefusal → Type 0
  Told (Ok Stored) = Unit {0}
  Told (Ok Dropped) = Unit {0}
  Told (Ok (Probing slot)) = Unit {0}
  Told (Ok (Moved slot address)) = Unit {0}
  Told (Ok (Kept slot address)) = Unit {0}
  Told (Ok (Effect hit body)) = Answer (function_at b k).placed o w true hit
  Told (Err r) = Unit {0}

  absent_write_lem : (x : Result Access Refusal) → Told (absent_write b x).answer
  absent_write_lem (Err r) = tt
  absent_write_lem (Ok a) = tt

  module _ (v : ℕ) where
    stepped : (f : FunctionState) (a : Result WriteAnswer Refusal) → (write_of (function_at b k) o w v).answer ≡ a → Told (stepped_on b k f a).answer
    stepped f (Ok write_answer.Stored) e = tt
    stepped f (Ok (write_answer.Probing i)) e = tt
    stepped f (Ok (write_answer.Candidate i a)) e =
        ⊎_elim (λ (t : accepts b k i a ≡ true). rw t tt) (λ (t : accepts b k i a ≡ false). rw t tt) (true_or_false (accepts b k i a))
    stepped f (Ok (write_answer.Effect hit body)) e = write_answer_lem (function_at b k) o w hit body v e
    stepped f (Err r) e = tt

    written : Told (written_on b k o w v).answer
    unfolding written_on
    written = stepped (write_of (function_at b k) o w v).state (write_of (function_at b k) o w v).answer refl

write_told : (b : Bus) (device o w v : ℕ) → Told b (index_on b device) o w (bus_write_of b device o w v).answer
write_told b device o w v =
    ⊎_elim (λ (h : index_on b device < count_on b). rw (write_declared b device o w v h) (written b (index_on b device) o w v))
    (λ (h : count_on b ≤ index_on b device). rw (write_absent b device o w v h) (absent_write_lem b (index_on b device) o w (access_of config_space_size o w)))
    (below_or_not (index_on b device) (count_on b))

pub bus_write_answer : (b : Bus) (device o w v : ℕ) (hit : EffectHit) (body : Snapshot) → (bus_write_of b device o w v).answer ≡ Ok (Effect hit body) → Answer (function_at b (index_on b device)).placed o w true hit
bus_write_answer b device o w v hit body e = subst (Told b (index_on b device) o w) e (write_told b device o w v)
