-- What can happen to a bus: any accesses and resets, each by the bus's own step.
use Rattle.std.specs.Prelude.{ℕ, List, [], ◌∷◌}
use Rattle.bus.specs.Access.{bus_write_of}
use Rattle.bus.specs.Reset.{bus_reset_of}
use Rattle.bus.specs.declared.state.Bus.{Bus}

-- an access to any device, at any offset, of any width, with any value; a memory lookup; a reset of the whole bus
pub data Step : Type 0 where
  reads : (device offset width : ℕ) → Step
  writes : (device offset width value : ℕ) → Step
  looks_up : (address width : ℕ) → Step
  resets : Step

-- the bus after it: a read and a lookup give an answer and no bus
unfoldable pub after : Bus → Step → Bus
after b (reads device offset width) = b
after b (writes device offset width value) = (bus_write_of b device offset width value).bus
after b (looks_up address width) = b
after b resets = (bus_reset_of b).bus

abbrev pub History : Type 0
History = List Step

-- the bus after a history, its first step first
unfoldable pub ran : Bus → History → Bus
ran b [] = b
ran b (s ∷ h) = ran (after b s) h
