-- A slot's whole register: where it lies, what a read of it shows, and what a write of it asks.
use Prim.Native.Nat.{ℕ, ◌+◌, ◌%◌, ◌<◌}
use mathlib.Core.Bool.{true, false}
use mathlib.Core.Path.{◌≡◌, refl, ◌∙◌}
use native.Mathlib.Omega.{arith}
use borrow.Author.Tests.{ne_eqb}
use Rattle.word.specs.Number.{byte_of, bytes_of, read_at}
use Rattle.word.proofs.ReadBytes.{read_bytes}
use Rattle.word.proofs.Tables.{length_table, get_or_table}
use Rattle.word.specs.Width.{width_ok}
use Rattle.address.specs.Kinds.{slot, register_of}
use Rattle.address.specs.Layout.{bar_count, bar_register_size}
use Rattle.address.proofs.Accesses.{Aligned, access_good}
use Rattle.bar.specs.Range.{four_gib}
use Rattle.bar.specs.Register.{Address}
use Rattle.bar.specs.State.{shown, probed}
use Rattle.bar.proofs.States.{ones_probe, address_relocates}
use Rattle.config.specs.Read.{register_bytes, read_of}
use Rattle.config.specs.Space.{space_of}
use Rattle.config.specs.State.{bar_at, slot_at, in_bar, with_bar}
use Rattle.config.specs.Write.{write_done, write_of}
use Rattle.config.specs.declared.read_step.ReadAnswer.TheVariants.{Value}
use Rattle.std.proofs.Common.{Ok}
use Rattle.config.specs.declared.state.FunctionState.{FunctionState}
use Rattle.config.specs.declared.write_step.WriteAnswer.TheVariants.{Probing, Candidate}
use Rattle.config.proofs.Reading.{read_register}
use Rattle.config.proofs.Slots.{bar_there}
use Rattle.config.proofs.Writing.{write_register, step_probe, step_candidate}

-- a dword that is read back whole
dword_back : (v : ℕ) → read_at (bytes_of bar_register_size v) 0 4 ≡ v % four_gib
unfolding bytes_of
dword_back v =
    read_bytes (bytes_of bar_register_size v) 0 4 v (omega arith) (rw (length_table 4 (byte_of v)) (omega arith)) (λ k h. let z : 0 + k ≡ k = omega arith in rw z (get_or_table 4 (byte_of v) k 0 h))

module _ (f : FunctionState) (i : ℕ) (h : i < bar_count) where
  pub register_slot : slot_at (register_of (slot i)) ≡ i
  register_slot = omega arith

  pub register_aligned : Aligned (space_of f) (register_of (slot i)) 4
  unfolding space_of width_ok
  register_aligned = record { known = refl; below = omega arith; multiple = omega arith }

  -- of a slot with no BAR
  pub register_free : (bar_at f.bars i).plan.size ≡ 0 → in_bar f.bars (register_of (slot i)) ≡ false
  register_free z = bar_there f.bars (register_of (slot i)) (omega arith) (omega arith) ∙ rw (register_slot, z)

  -- of one with a BAR
  module _ (z : 0 < (bar_at f.bars i).plan.size) where
    pub register_held : in_bar f.bars (register_of (slot i)) ≡ true
    register_held = bar_there f.bars (register_of (slot i)) (omega arith) (omega arith) ∙ rw (register_slot, ne_eqb (bar_at f.bars i).plan.size 0 (λ e. omega arith))

    lane : register_of (slot i) % bar_register_size ≡ 0
    lane = omega arith

    pub register_read : read_of f (register_of (slot i)) 4 ≡ Ok (Value (shown (bar_at f.bars i) % four_gib))
    unfolding read_of register_bytes
    register_read =
        rw (access_good (space_of f) (register_of (slot i)) 4 register_aligned) (read_register f (register_of (slot i)) 4 register_held ∙ rw (register_slot, lane, dword_back (shown (bar_at f.bars i))))

    pub register_ones : write_of f (register_of (slot i)) 4 0xffffffff ≡ write_done (Ok (Probing i)) (with_bar f i (probed (bar_at f.bars i)))
    unfolding write_of
    register_ones =
        rw (access_good (space_of f) (register_of (slot i)) 4 register_aligned) (write_register f (register_of (slot i)) 4 0xffffffff register_held ∙
        step_probe f (register_of (slot i)) 4 0xffffffff (rw (register_slot, lane) (ones_probe (bar_at f.bars i))) ∙ rw register_slot)

    pub register_address : (a : ℕ) → Address a → write_of f (register_of (slot i)) 4 a ≡ write_done (Ok (Candidate i a)) f
    unfolding write_of
    register_address a t =
        rw (access_good (space_of f) (register_of (slot i)) 4 register_aligned) (write_register f (register_of (slot i)) 4 a register_held ∙
        step_candidate f (register_of (slot i)) 4 a a (rw (register_slot, lane) (address_relocates (bar_at f.bars i) a t)) ∙ rw register_slot)
