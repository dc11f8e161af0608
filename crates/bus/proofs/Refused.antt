-- A refused access changes nothing (document 01: "18, 19, and 20 on a write, change nothing"), nor does an effect or a dropped write.
use Prim.Native.Nat.{ℕ}
use mathlib.Core.Bool.{true, false}
use mathlib.Core.Path.{◌≡◌, refl}
use Rattle.refusal.specs.Number.{accepted}
use Rattle.word.proofs.Tests.{both, never}
use Rattle.bus.specs.Access.{bus_write_number, bus_write_of, changes}
use Rattle.bus.specs.declared.state.Bus.{Bus}
use Rattle.bus.specs.declared.write_access.BusWriteAnswer.{BusWriteAnswer}
use Rattle.bus.specs.declared.write_access.WriteRefusal.{WriteRefusal}
use Rattle.std.proofs.Common.{Result, Ok, Err}
use Rattle.bus.proofs.AccessCases.{access_by}

-- whatever changes a function is accepted
changes_accepted : (a : Result BusWriteAnswer WriteRefusal) → changes a ≡ true → bus_write_number a ≡ accepted
changes_accepted (Ok a) e = refl
changes_accepted (Err r) e = absurd (both e refl)

module _ (b : Bus) (device o w v : ℕ) where
  -- neither stored, probing, moved nor kept: the bus is the one before
  pub unchanged : changes (bus_write_of b device o w v).answer ≡ false → (bus_write_of b device o w v).bus ≡ b
  unchanged =
      access_by (λ d. changes d.answer ≡ false → d.bus ≡ b) b o w v
      (record { still = λ a q e. refl; stored = λ k h e. absurd (both refl e); probing = λ k i h e. absurd (both refl e); moved = λ k i a h l t e. absurd (both refl e); kept = λ k i a h l t e. absurd (both refl e) })
      device

  pub refused_changes_nothing : (bus_write_number (bus_write_of b device o w v).answer ≡ accepted → ⊥) → (bus_write_of b device o w v).bus ≡ b
  refused_changes_nothing h =
      unchanged (never (changes (bus_write_of b device o w v).answer) (λ t. h (changes_accepted (bus_write_of b device o w v).answer t)))
