-- What stays true of a bus from an accepted file through every access and every reset, and what is true of it at its start besides. proofs/Sounds.antt shows both of the start, proofs/SoundAccesses.antt that every write by device and every reset keeps the first.
use Rattle.std.specs.Prelude.{ℕ, ◌/◌, ◌<◌, ◌≤◌, true, false, cond, ◌≡◌, ltb, length, get_or, Ok}
use Rattle.word.specs.Bit.{bit}
use Rattle.address.specs.Layout.{config_space_size, bar_count}
use Rattle.address.specs.Limits.{function_room}
use Rattle.bar.specs.Range.{four_gib, end_of, multiple, lies_in, meets}
use Rattle.bar.specs.State.{reset_of, range_of}
use Rattle.bar.specs.declared.range.Aperture.{Aperture}
use Rattle.bar.specs.declared.range.Range.{Range}
use Rattle.config.specs.Same.{Same}
use Rattle.config.specs.State.{bar_at}
use Rattle.config.specs.declared.state.FunctionState.{FunctionState}
use Rattle.placement.specs.Place.{no_range}
use Rattle.declaration.specs.Good.{Good}
use Rattle.declaration.specs.Standing.{most_device}
use Rattle.declaration.specs.declared.answer.Declaration.{Declaration}
use Rattle.bus.specs.Bus.{no_function_state, count_on, device_at, function_at, bar_on, range_on}
use Rattle.bus.specs.Start.{declared_function, function_start, devices_of, bus_of, placement_in, addresses_in}
use Rattle.bus.specs.declared.state.Bus.{Bus}

-- the function at an index as it starts, and the bus
abbrev pub started_function : Declaration → ℕ → FunctionState
started_function d k = function_start (declared_function d k) (addresses_in d) k

abbrev pub started_bus : Declaration → Bus
started_bus d = bus_of d (addresses_in d)

-- the range in which a BAR was placed, by key: where a reset puts it
unfoldable pub plan_on : Bus → ℕ → Range
plan_on b key = cond (ltb (key / bar_count) (count_on b)) (range_of (reset_of (bar_on b key))) no_range

-- ranges by key: each that is not empty is a multiple of its size and lies in the aperture, all end at 4 GiB at most, and no two meet
pub record Clear (aperture : Aperture) (at : ℕ → Range) : Type 0 where
  pub aligned : (k : ℕ) → 0 < (at k).size → multiple (at k) ≡ true
  pub within : (k : ℕ) → 0 < (at k).size → lies_in aperture (at k) ≡ true
  pub below : (k : ℕ) → end_of (at k) ≤ four_gib
  pub apart : (j k : ℕ) → (j ≡ k → ⊥) → meets (at j) (at k) ≡ false

-- a function that started so: images, masks, plans and capabilities are as they were, and the live image agrees with that at power-on in every bit whose mask is 0
pub record SoundFunction (start f : FunctionState) : Type 0 where
  pub same : Same start f
  pub long : length f.live ≡ config_space_size
  pub bytes : (j : ℕ) → get_or f.live j 0 < 256
  pub masks : (j : ℕ) → get_or f.mask j 0 < 256
  pub unmasked : (j i : ℕ) → i < 8 → bit (get_or f.mask j 0) i ≡ 0 → bit (get_or f.live j 0) i ≡ bit (get_or f.power_on j 0) i
  pub six : length f.bars ≡ bar_count

-- a bus of a declaration: its aperture and devices, each function by what was declared, blanks past the last, and every BAR's committed range clear
pub record Sound (d : Declaration) (b : Bus) : Type 0 where
  pub good : Good d
  pub accepted : placement_in d ≡ Ok (addresses_in d)
  pub aperture : b.aperture ≡ d.aperture
  pub count : b.count ≡ d.count
  pub few : b.count ≤ function_room
  pub devices : b.devices ≡ devices_of d
  pub ascends : (j k : ℕ) → j < k → k < b.count → device_at b j < device_at b k
  pub most : (k : ℕ) → k < b.count → device_at b k ≤ most_device
  pub room : length b.functions ≡ function_room
  pub functions : (k : ℕ) → k < b.count → SoundFunction (started_function d k) (function_at b k)
  pub past : (k : ℕ) → b.count ≤ k → function_at b k ≡ no_function_state
  pub committed : Clear b.aperture (range_on b)

-- a function at power-on: live image and power-on image are one, every BAR is where it was placed, nothing probes, revision 0
pub record AtPowerOn (f : FunctionState) : Type 0 where
  pub live : f.live ≡ f.power_on
  pub placed : (i : ℕ) → (bar_at f.bars i).address ≡ (bar_at f.bars i).plan.address
  pub quiet : (i : ℕ) → (bar_at f.bars i).probing ≡ false
  pub revision : f.revision ≡ 0

-- a bus as it starts
pub record SoundStart (d : Declaration) (b : Bus) : Type 0 where
  pub sound : Sound d b
  pub powered : (k : ℕ) → k < b.count → AtPowerOn (function_at b k)
