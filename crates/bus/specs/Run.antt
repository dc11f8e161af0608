-- The Run case of document 01, from the bytes of its file to the bus that they start (proofs/RunCase.antt proves `RunCase`).
use Rattle.std.specs.Prelude.{ℕ, List, [], ◌∷◌, ◌++◌, ◌≡◌, true, length, replicate, is_ok, Result}
use Rattle.address.specs.Limits.{limits}
use Rattle.bar.specs.Range.{range}
use Rattle.bar.specs.declared.range.Range.{Range}
use Rattle.declaration.specs.declared.answer.DeclarationRefusal.{DeclarationRefusal}
use Rattle.placement.specs.Place.{no_range}
use Rattle.bus.specs.Bus.{ranges_on}
use Rattle.bus.specs.Start.{bus_given, start_of}
use Rattle.bus.specs.declared.state.Bus.{Bus}

-- "Aperture 0x80000000 to 0x80010000"
abbrev pub aperture_field : List ℕ
aperture_field = 1 ∷ 16 ∷ 0 ∷ 0 ∷ 0 ∷ 0 ∷ 0x80 ∷ 0 ∷ 0 ∷ 0 ∷ 0 ∷ 0 ∷ 0 ∷ 1 ∷ 0x80 ∷ 0 ∷ 0 ∷ 0 ∷ 0 ∷ []

-- a function of a device
abbrev pub function_field : ℕ → List ℕ
function_field device = 2 ∷ 13 ∷ 0 ∷ device ∷ 0xf4 ∷ 0x1a ∷ device ∷ 0x10 ∷ 0xf4 ∷ 0x1a ∷ device ∷ 0 ∷ 1 ∷ 2 ∷ 0 ∷ 0 ∷ []

-- a BAR: its slot and kind, byte 1 of its size and byte 3 of its address, all others 0
abbrev pub bar_field : ℕ → ℕ → ℕ → ℕ → List ℕ
bar_field slot kind size address =
    4 ∷ 18 ∷ 0 ∷ slot ∷ kind ∷ 0 ∷ size ∷ 0 ∷ 0 ∷ 0 ∷ 0 ∷ 0 ∷ 0 ∷ 0 ∷ 0 ∷ 0 ∷ address ∷ 0 ∷ 0 ∷ 0 ∷ 0 ∷ []

-- "The file is 114 bytes."
abbrev pub run_file : List ℕ
run_file = aperture_field ++ function_field 3 ++ bar_field 0 0 0x10 0 ++ bar_field 1 1 0x10 0x80 ++ function_field 5 ++ bar_field 0 0 0x40 0

-- by key, function · 6 + slot: "03.0 80001000", "03.1 80000000", "05.0 80004000"
abbrev pub run_ranges : List Range
run_ranges = range 0x80001000 0x1000 ∷ range 0x80000000 0x1000 ∷ replicate 4 no_range ++ (range 0x80004000 0x4000 ∷ replicate 41 no_range)

pub record Runs (s : Result Bus DeclarationRefusal) : Type 0 where
  pub accepted : is_ok s ≡ true
  pub aperture : (bus_given s).aperture ≡ record { start = 0x80000000; end = 0x80010000 }
  pub count : (bus_given s).count ≡ 2
  pub devices : (bus_given s).devices ≡ 3 ∷ 5 ∷ replicate 6 0
  pub ranges : ranges_on (bus_given s) ≡ run_ranges

abbrev pub RunCase : Type 0
RunCase = (length run_file ≡ 114) × Runs (start_of limits run_file)
