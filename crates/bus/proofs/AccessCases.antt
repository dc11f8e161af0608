-- What a write by device can answer and leave: five cases. Whatever is shown of these holds of every write.
use Rattle.std.specs.Prelude.{Some, None, Result, Ok, Err}
use Prim.Native.Nat.{ℕ, ◌<◌, ◌≤◌}
use mathlib.Core.Bool.{true, false}
use mathlib.Core.Logic.{⊎_elim}
use mathlib.Core.Path.{◌≡◌, refl}
use Rattle.word.proofs.Tests.{below_or_not, true_or_false}
use Rattle.address.specs.Layout.{config_space_size, bar_count}
use Rattle.address.specs.Check.{access_of}
use Rattle.address.specs.declared.access.Access.{Access}
use Rattle.config.specs.State.{bar_at}
use Rattle.config.specs.Write.{write_of, relocated_in}
use Rattle.config.specs.declared.write_step.WriteAnswer.{WriteAnswer}
use Rattle.config.specs.declared.write_step.WriteAnswer.TheVariants as write_answer
use Rattle.bus.specs.Bus.{count_on, device_at, function_at, index_on, with_function}
use Rattle.bus.specs.Access.{accepts, changes, bus_done, refused_at, stepped_on, absent_write, written_on, bus_write_of}
use Rattle.bus.specs.declared.state.Bus.{Bus}
use Rattle.bus.specs.declared.write_access.BusWriteAnswer.{BusWriteAnswer}
use Rattle.bus.specs.declared.write_access.BusWriteAnswer.TheVariants.{Stored, Dropped, Probing, Moved, Kept, Effect}
use Rattle.bus.specs.declared.write_access.WriteRefusal.{WriteRefusal}
use Rattle.bus.specs.declared.write_access.WriteRefusal.TheVariants.{BadAccess}
use Rattle.bus.specs.declared.write_access.BusWriteDone.{BusWriteDone}
use Rattle.bus.proofs.Candidates.{candidate_slot}
use Rattle.bus.proofs.Dispatch.{write_declared, write_absent}
use Rattle.refusal.specs.declared.refusal.Refusal.{Refusal}

-- what has to be shown of a write: one clause a case
pub record Shown (P : BusWriteDone → Type 0) (b : Bus) (o w v : ℕ) : Type 0 where
  pub still : (a : Result BusWriteAnswer WriteRefusal) → changes a ≡ false → P (bus_done a b)
  pub stored : (k : ℕ) → k < count_on b → P (bus_done (Ok Stored) (with_function b k (write_of (function_at b k) o w v).state))
  pub probing : (k i : ℕ) → k < count_on b → P (bus_done (Ok (Probing i)) (with_function b k (write_of (function_at b k) o w v).state))
  pub moved : (k i a : ℕ) → k < count_on b → i < bar_count → accepts b k i a ≡ true → P (bus_done (Ok (Moved i a)) (with_function b k (relocated_in (function_at b k) i (Some a))))
  pub kept : (k i a : ℕ) → k < count_on b → i < bar_count → accepts b k i a ≡ false → P (bus_done (Ok (Kept i (bar_at (function_at b k).bars i).address)) (with_function b k (relocated_in (function_at b k) i None)))

module _ (P : BusWriteDone → Type 0) (b : Bus) (o w v : ℕ) (s : Shown P b o w v) where
  module _ (k : ℕ) (h : k < count_on b) where
    -- by what the function's step answers
    stepped : (a : Result WriteAnswer Refusal) → (write_of (function_at b k) o w v).answer ≡ a → P (stepped_on b k (write_of (function_at b k) o w v).state a)
    stepped (Ok write_answer.Stored) e = s.stored k h
    stepped (Ok (write_answer.Probing i)) e = s.probing k i h
    stepped (Ok (write_answer.Candidate i a)) e =
        let l = candidate_slot (function_at b k) o w v i a e in
        ⊎_elim (λ (t : accepts b k i a ≡ true). rw t (s.moved k i a h l t)) (λ (t : accepts b k i a ≡ false). rw t (s.kept k i a h l t)) (true_or_false (accepts b k i a))
    stepped (Ok (write_answer.Effect hit body)) e = s.still (Ok (Effect hit body)) refl
    stepped (Err r) e = s.still (Err (refused_at (device_at b k) r)) refl

    written : P (written_on b k o w v)
    unfolding written_on
    written = stepped (write_of (function_at b k) o w v).answer refl

  absent : (x : Result Access Refusal) → P (absent_write b x)
  absent (Err r) = s.still (Err BadAccess) refl
  absent (Ok a) = s.still (Ok Dropped) refl

  -- every write is one of the cases
  pub access_by : (device : ℕ) → P (bus_write_of b device o w v)
  access_by device =
      ⊎_elim (λ (h : index_on b device < count_on b). rw (write_declared b device o w v h) (written (index_on b device) h))
      (λ (h : count_on b ≤ index_on b device). rw (write_absent b device o w v h) (absent (access_of config_space_size o w)))
      (below_or_not (index_on b device) (count_on b))
