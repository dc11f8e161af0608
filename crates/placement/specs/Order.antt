-- The order in which BARs are placed (document 01, "Placement": "Fixed BARs first, by device then slot", "Automatic ones by size descending, then device, then slot").
use Rattle.std.specs.Prelude.{ℕ, Bool, true, false, ◌&&◌, ◌||◌, cond, List, ltb, eqb, get_or}
use Rattle.word.specs.Table.{table}
use Rattle.bar.specs.Range.{range}
use Rattle.bar.specs.Bar.{no_bar}
use Rattle.bar.specs.declared.range.Range.{Range}
use Rattle.bar.specs.declared.memory_bar.MemoryBar.{MemoryBar}
use Rattle.bar.specs.declared.memory_bar.Request.{Request}
use Rattle.bar.specs.declared.memory_bar.Request.TheVariants.{Auto, Fixed}
use Rattle.placement.specs.Keys.{key_count}
use Rattle.placement.specs.Place.{no_range}

-- the size of a key's BAR
abbrev pub size_at : List MemoryBar → ℕ → ℕ
size_at bars key = (get_or bars key no_bar).size

-- and where it is asked for
abbrev pub request_at : List MemoryBar → ℕ → Request
request_at bars key = (get_or bars key no_bar).request

-- "by size descending, then device, then slot": x comes before y
unfoldable pub comes_before : List MemoryBar → ℕ → ℕ → Bool
comes_before bars x y = ltb (size_at bars y) (size_at bars x) || (eqb (size_at bars x) (size_at bars y) && ltb x y)

-- of two BARs, by their requests: fixed ones first; two fixed ones by key, two automatic ones by size
abbrev pub ordered : Request → Request → Bool → Bool → Bool
ordered (Fixed a) (Fixed b) byKey by_size = byKey
ordered (Fixed a) Auto byKey by_size = true
ordered Auto (Fixed b) byKey by_size = false
ordered Auto Auto byKey by_size = by_size

-- whether the BAR at x is placed before the one at y
unfoldable pub precedes : List MemoryBar → ℕ → ℕ → Bool
precedes bars x y = ordered (request_at bars x) (request_at bars y) (ltb x y) (comes_before bars x y)

-- the range of a key's BAR, where addresses are given
abbrev pub range_at : List MemoryBar → List ℕ → ℕ → Range
range_at bars addresses key = range (get_or addresses key 0) (size_at bars key)

-- the ranges of the BARs that are placed before the one at a key
unfoldable pub placed_before : List MemoryBar → List ℕ → ℕ → List Range
placed_before bars addresses key = table key_count (λ k. cond (precedes bars k key) (range_at bars addresses k) no_range)
