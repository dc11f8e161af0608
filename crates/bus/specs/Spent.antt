-- What the reset of a bus answers and leaves, in document 01's words: "the answer is 20 with the lowest such device, everything else done". proofs/ResetExact.antt shows of a sound bus that an answer is given exactly if it is this, proofs/RestoredBars.antt of every bus with its eight places for functions that its reset is `BusRestored`.
use Rattle.std.specs.Prelude.{ℕ, ◌+◌, ◌<◌, ◌≤◌, min, false, ◌≡◌, Result, Ok, Err}
use Rattle.config.specs.Command.{largest_revision}
use Rattle.config.specs.Same.{Same}
use Rattle.config.specs.State.{bar_at}
use Rattle.config.specs.declared.state.FunctionState.{FunctionState}
use Rattle.bus.specs.Bus.{count_on, device_at, function_at}
use Rattle.bus.specs.declared.bus_reset.Exhausted.{Exhausted}
use Rattle.bus.specs.declared.state.Bus.{Bus}

-- a device whose revision is "already at its largest"
pub record Spent (b : Bus) (device : ℕ) : Type 0 where
  pub index : ℕ
  pub there : index < count_on b
  pub its : device_at b index ≡ device
  pub largest : (function_at b index).revision ≡ largest_revision

-- "the lowest such device"
pub record LowestSpent (b : Bus) (device : ℕ) : Type 0 where
  pub spent : Spent b device
  pub lowest : (other : ℕ) → Spent b other → device ≤ other

-- 20 with a device says that it is the lowest, and all restored that there is none
abbrev pub ResetSays : Bus → Result Unit Exhausted → Type 0
ResetSays b (Err e) = LowestSpent b e.0
ResetSays b (Ok t) = (device : ℕ) → Spent b device → ⊥

-- a function f after the reset is g. "Reset restores every function's live image and BARs, ends probing, then adds 1 to each revision. One already at its largest stays". Masks, plans, capabilities and the power-on image are the same
pub record FunctionRestored (f g : FunctionState) : Type 0 where
  pub same : Same f g
  pub live : g.live ≡ f.power_on
  pub bars : (i : ℕ) → (bar_at g.bars i).address ≡ (bar_at f.bars i).plan.address
  pub quiet : (i : ℕ) → (bar_at g.bars i).probing ≡ false
  pub revision : g.revision ≡ min (f.revision + 1) largest_revision

-- a bus b after its reset is c, whatever the answer: "everything else done"
pub record BusRestored (b c : Bus) : Type 0 where
  pub aperture : c.aperture ≡ b.aperture
  pub devices : c.devices ≡ b.devices
  pub count : c.count ≡ b.count
  pub functions : (k : ℕ) → k < count_on b → FunctionRestored (function_at b k) (function_at c k)
  pub past : (k : ℕ) → count_on b ≤ k → function_at c k ≡ function_at b k
