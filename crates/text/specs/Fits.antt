-- Every number that is shown of a bus has no more digits than are shown: "Hex digits are as many as shown". proofs/Fitting.antt shows it of every accepted file.
use Rattle.std.specs.Prelude.{ℕ, ◌^◌, ◌%◌, ◌<◌}
use Rattle.address.specs.Layout.{bar_count}
use Rattle.bus.specs.Bus.{device_at, range_on}
use Rattle.bus.specs.declared.state.Bus.{Bus}
use Rattle.text.specs.Line.{end_digits, device_digits, slot_digits, address_digits, size_digits}

-- what is shown: the aperture's ends, each device, and at each key the slot, and the address and size of the BAR
pub record Fits (b : Bus) : Type 0 where
  pub start : b.aperture.start < 16 ^ end_digits
  pub end : b.aperture.end < 16 ^ end_digits
  pub device : (k : ℕ) → k < b.count → device_at b k < 16 ^ device_digits
  pub slot : (key : ℕ) → key % bar_count < 16 ^ slot_digits
  pub address : (key : ℕ) → 0 < (range_on b key).size → (range_on b key).start < 16 ^ address_digits
  pub size : (key : ℕ) → (range_on b key).size < 16 ^ size_digits
