-- Worked examples of document 01: P9, the Run case's addresses, and one refusal each of 14, 15 and 16. The declared BARs have the shape that code holds.
use Rattle.std.specs.Prelude.{ℕ, ◌-◌, List, [], ◌∷◌, ◌++◌, length, set, replicate, Ok, Err}
use Rattle.refusal.specs.declared.refusal.Refusal.TheVariants.{NotMultiple, OutsideAperture, OverlapsPlaced, NoPlace}
use Rattle.address.specs.Layout.{bar_count}
use Rattle.address.specs.Limits.{function_room}
use Rattle.address.specs.Kinds.{slot}
use Rattle.bar.specs.Bar.{memory_bar, no_bar}
use Rattle.bar.specs.declared.range.Aperture.{Aperture}
use Rattle.bar.specs.declared.memory_bar.MemoryBar.{MemoryBar}
use Rattle.bar.specs.declared.memory_bar.Request.TheVariants.{Auto, Fixed}
use Rattle.placement.specs.Keys.{key_count, no_function}
use Rattle.placement.specs.Answer.{Placement, refused_by, placement_of}
use Rattle.placement.specs.declared.declared_bars.FunctionBars.{FunctionBars}
use Rattle.placement.specs.declared.declared_bars.DeclaredBars.{DeclaredBars}

-- an array of n that begins with a list
abbrev pub padded : {A : Type 0} → ℕ → A → List A → List A
padded n blank l = l ++ replicate (n - length l) blank

-- a function with its BARs, and functions
abbrev pub function_of : ℕ → List MemoryBar → FunctionBars
function_of device bars = record { device = device; count = length bars; bars = padded bar_count no_bar bars }

abbrev pub declared_of : List FunctionBars → DeclaredBars
declared_of functions = record { count = length functions; functions = padded function_room no_function functions }

-- P9: "Aperture 0x80000010 to 0x80001010, automatic 0x1000: 17"; here at device 7, slot 2
abbrev pub p9_aperture : Aperture
p9_aperture = record { start = 0x80000010; end = 0x80001010 }

abbrev pub one_automatic : ℕ → DeclaredBars
one_automatic size = declared_of (function_of 7 (memory_bar (slot 2) size Auto ∷ []) ∷ [])

-- Run: "Aperture 0x80000000 to 0x80010000; device 3 slot 0 automatic 0x1000, slot 1 fixed 0x80000000 size 0x1000; device 5 slot 0 automatic 0x4000"
abbrev pub run_aperture : Aperture
run_aperture = record { start = 0x80000000; end = 0x80010000 }

abbrev pub run_bars : DeclaredBars
run_bars =
    declared_of (function_of 3 (memory_bar (slot 0) 0x1000 Auto ∷ memory_bar (slot 1) 0x1000 (Fixed 0x80000000) ∷ []) ∷ function_of 5 (memory_bar (slot 0) 0x4000 Auto ∷ []) ∷ [])

abbrev pub run_addresses : List ℕ
run_addresses = set (set (set (replicate key_count 0) 0 0x80001000) 1 0x80000000) 6 0x80004000

-- device 3 with 0x4000 addresses from 0x80000000 on at slot 0, and 0x1000 from a on at slot 1
abbrev pub two_fixed : ℕ → DeclaredBars
two_fixed a = declared_of (function_of 3 (memory_bar (slot 0) 0x4000 (Fixed 0x80000000) ∷ memory_bar (slot 1) 0x1000 (Fixed a) ∷ []) ∷ [])

unfoldable pub asked : List Placement
asked =
    placement_of p9_aperture (one_automatic 0x1000) ∷
    placement_of run_aperture run_bars ∷
    placement_of run_aperture (two_fixed 0x80008010) ∷ placement_of run_aperture (two_fixed 0xfffffffffffff000) ∷ placement_of run_aperture (two_fixed 0x80003000) ∷ []

unfoldable pub told : List Placement
told = Err (refused_by NoPlace 7 2) ∷ Ok run_addresses ∷ Err (refused_by NotMultiple 3 1) ∷ Err (refused_by OutsideAperture 3 1) ∷ Err (refused_by OverlapsPlaced 3 1) ∷ []
