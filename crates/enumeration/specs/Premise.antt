-- Demand 3 needs its premise: with a BAR that shows its size, the enumeration of document 01 reports another address and moves the BAR there (proofs/Premises.antt proves `Needed`).
use Rattle.std.specs.Prelude.{ℕ, ◌<◌, List, [], ◌∷◌, ◌++◌, ◌≡◌, get_or}
use Rattle.bus.specs.Bus.{function_at}
use Rattle.bus.specs.Run.{function_field, bar_field}
use Rattle.bus.specs.declared.state.Bus.{Bus}
use Rattle.enumeration.specs.Enumerate.{empty_slot, register_at, enumerate_of}
use Rattle.enumeration.specs.History.{History, writes, ran}
use Rattle.enumeration.specs.Truth.{Accepted, declared, started, address_in, Truth}

-- an aperture from 0xffff0000 to 4 GiB, device 0, and in its slot 2 an automatic BAR of 0x1000
abbrev pub file : List ℕ
file =
    (1 ∷ 16 ∷ 0 ∷ 0 ∷ 0 ∷ 0xff ∷ 0xff ∷ 0 ∷ 0 ∷ 0 ∷ 0 ∷ 0 ∷ 0 ∷ 0 ∷ 0 ∷ 1 ∷ 0 ∷ 0 ∷ 0 ∷ []) ++ function_field 0 ++ bar_field 2 0 0x10 0

-- all ones into its register
abbrev pub probes : History
probes = writes 0 (register_at 2) 4 0xffffffff ∷ []

-- what enumeration then takes for the address is the size's mask, and it is where the BAR is put back
pub record Mistaken (b : Bus) : Type 0 where
  pub at : address_in (function_at b 0) 2 ≡ 0xffff0000
  pub reported : get_or (enumerate_of b 0).report.slots 2 empty_slot ≡ record { size = 0x1000; address = 0xfffff000 }
  pub moved : address_in (function_at (enumerate_of b 0).bus 0) 2 ≡ 0xfffff000

-- the demand with no premise
abbrev pub Unguarded : Type 0
Unguarded = (file : List ℕ) → Accepted file → (h : History) (k : ℕ) → k < (declared file).count → Truth (declared file) (ran (started file) h) k

pub record Needed : Type 0 where
  pub accepted : Accepted file
  pub mistaken : Mistaken (ran (started file) probes)
  pub unguarded : Unguarded → ⊥
