-- A BAR that moves, from the bytes of document 01's Run file on: enumeration reports where it went, and memory lookup finds it there and no longer where it was (proofs/MovedCase.antt proves `MovedCase`).
use Rattle.std.specs.Prelude.{◌≡◌, [], ◌∷◌, None, Ok}
use Rattle.address.specs.Layout as layout
use Rattle.bus.specs.Access.{bus_write_of}
use Rattle.bus.specs.Lookup.{hit_of, lookup_of}
use Rattle.bus.specs.Run.{run_file}
use Rattle.bus.specs.declared.state.Bus.{Bus}
use Rattle.bus.specs.declared.write_access.BusWriteAnswer.TheVariants as write
use Rattle.enumeration.specs.Enumerate.{register_at, enumerate_of}
use Rattle.enumeration.specs.History.{History, writes, ran}
use Rattle.enumeration.specs.Truth.{Accepted, started, slot_in}

-- device 5's BAR in slot 0, of 0x4000, goes from 0x80004000 to 0x80008000; then command bit 1 is set
abbrev pub moves : History
moves = writes 5 (register_at 0) 4 0x80008000 ∷ writes 5 layout.command 2 layout.memory_space_enable ∷ []

-- what becomes of a bus that starts so
pub record Moves (b : Bus) : Type 0 where
  pub answered : (bus_write_of b 5 (register_at 0) 4 0x80008000).answer ≡ Ok (write.Moved 0 0x80008000)
  pub reported : slot_in (enumerate_of (ran b moves) 5).report 0 ≡ record { size = 0x4000; address = 0x80008000 }
  pub first : lookup_of (ran b moves) 0x80008000 4 ≡ Ok (hit_of 5 0 0)
  pub last : lookup_of (ran b moves) 0x8000bff8 8 ≡ Ok (hit_of 5 0 0x3ff8)
  pub gone : lookup_of (ran b moves) 0x80004000 4 ≡ Ok None

abbrev pub MovedCase : Type 0
MovedCase = Accepted run_file × Moves (started run_file)
