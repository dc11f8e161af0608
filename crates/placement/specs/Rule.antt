-- The rule for one BAR, given the ranges placed before it: the address that it is given, and when each of 14 to 17 is (document 01, "Placement" and "Refusal numbers").
use Rattle.std.specs.Prelude.{ℕ, ◌<◌, true, false, List, ◌≡◌}
use Rattle.refusal.specs.declared.refusal.Refusal.{Refusal}
use Rattle.refusal.specs.declared.refusal.Refusal.TheVariants.{NotMultiple, OutsideAperture, OverlapsPlaced, NoPlace}
use Rattle.bar.specs.Range.{range, multiple, lies_in}
use Rattle.bar.specs.declared.range.Range.{Range}
use Rattle.bar.specs.declared.range.Aperture.{Aperture}
use Rattle.bar.specs.declared.memory_bar.MemoryBar.{MemoryBar}
use Rattle.bar.specs.declared.memory_bar.Request.TheVariants.{Auto, Fixed}
use Rattle.placement.specs.Place.{meets_any, is_place}

-- the address that a BAR is given: a fixed one what it asks for, which is a place; an automatic one a place with none below it; and 0 where there is no BAR
pub record Given (aperture : Aperture) (bar : MemoryBar) (placed : List Range) (address : ℕ) : Type 0 where
  pub fixed : (a : ℕ) → bar.request ≡ Fixed a → (address ≡ a) × (is_place aperture bar.size placed a ≡ true)
  pub automatic : bar.request ≡ Auto → 0 < bar.size → (is_place aperture bar.size placed address ≡ true) × ((b : ℕ) → b < address → is_place aperture bar.size placed b ≡ false)
  pub none : bar.request ≡ Auto → bar.size ≡ 0 → address ≡ 0

-- 14: "fixed address not a multiple of size"
pub record Row14 (bar : MemoryBar) : Type 0 where
  pub address : ℕ
  pub fixed : bar.request ≡ Fixed address
  pub not_multiple : multiple (range address bar.size) ≡ false

-- 15: "fixed range outside the aperture or past 64 bits", which no aperture reaches; 14 comes first
pub record Row15 (aperture : Aperture) (bar : MemoryBar) : Type 0 where
  pub address : ℕ
  pub fixed : bar.request ≡ Fixed address
  pub not_14 : multiple (range address bar.size) ≡ true
  pub outside : lies_in aperture (range address bar.size) ≡ false

-- 16: "fixed range overlaps one placed before"; 14 and 15 come first
pub record Row16 (aperture : Aperture) (bar : MemoryBar) (placed : List Range) : Type 0 where
  pub address : ℕ
  pub fixed : bar.request ≡ Fixed address
  pub not_14 : multiple (range address bar.size) ≡ true
  pub not_15 : lies_in aperture (range address bar.size) ≡ true
  pub overlaps : meets_any (range address bar.size) placed ≡ true

-- 17: "no free place for an automatic BAR"
pub record Row17 (aperture : Aperture) (bar : MemoryBar) (placed : List Range) : Type 0 where
  pub automatic : bar.request ≡ Auto
  pub there : 0 < bar.size
  pub no_place : (b : ℕ) → is_place aperture bar.size placed b ≡ false

-- the row of a refusal
pub data Row (aperture : Aperture) (bar : MemoryBar) (placed : List Range) : Refusal → Type 0 where
  row14 : Row14 bar → Row aperture bar placed NotMultiple
  row15 : Row15 aperture bar → Row aperture bar placed OutsideAperture
  row16 : Row16 aperture bar placed → Row aperture bar placed OverlapsPlaced
  row17 : Row17 aperture bar placed → Row aperture bar placed NoPlace
