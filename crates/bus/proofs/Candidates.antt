-- A candidate is asked for in the register of a slot.
use Prim.Native.Nat.{ℕ, ◌<◌}
use mathlib.Core.Path.{◌≡◌}
use native.Mathlib.Omega.{arith}
use Rattle.address.specs.Layout.{bar_count}
use Rattle.config.specs.State.{slot_at}
use Rattle.config.specs.Write.{write_of}
use Rattle.config.specs.declared.state.FunctionState.{FunctionState}
use Rattle.config.specs.declared.write_step.WriteAnswer.TheVariants.{Candidate}
use Rattle.config.specs.declared.write_step.WriteDone.{WriteDone}
use Rattle.std.proofs.Common.{Ok}
use Rattle.config.proofs.Slots.{in_bar_slot}
use Rattle.config.proofs.WriteCases.{write_by_lem}

-- a candidate's slot is one of the six
abbrev InSlot : WriteDone → Type 0
InSlot d = (i a : ℕ) → d.answer ≡ Ok (Candidate i a) → i < bar_count

pub candidate_slot : (f : FunctionState) (o w v : ℕ) → InSlot (write_of f o w v)
candidate_slot f o w v =
    write_by_lem InSlot f o w v
    (record {
      bad_access = λ x i a e. let z : ◌≡◌ {A = ℕ} 0 1 = cc in absurd (omega arith);
      probing = λ x y i a e. let z : ◌≡◌ {A = ℕ} 0 1 = cc in absurd (omega arith);
      candidate = λ x y b g i a e. let s : i ≡ slot_at o = cc in rw s (in_bar_slot f.bars o y);
      effect = λ x y hit g i a e. let z : ◌≡◌ {A = ℕ} 0 1 = cc in absurd (omega arith);
      bad_effect = λ x y g i a e. let z : ◌≡◌ {A = ℕ} 0 1 = cc in absurd (omega arith);
      exhausts = λ x y g i a e. let z : ◌≡◌ {A = ℕ} 0 1 = cc in absurd (omega arith);
      stores = λ x y u g i a e. let z : ◌≡◌ {A = ℕ} 0 1 = cc in absurd (omega arith);
    })
