-- The two passes (document 01, "Placement").
use Rattle.std.specs.Prelude.{ℕ, zero, suc, Bool, true, false, not, ◌&&◌, cond, List, ltb, eqb, get_or, set, replicate, Option, Some, None, Result, Ok, Err}
use Rattle.refusal.specs.declared.refusal.Refusal.{Refusal}
use Rattle.refusal.specs.declared.refusal.Refusal.TheVariants.{NotMultiple, OutsideAperture, OverlapsPlaced, NoPlace}
use Rattle.word.specs.Search.{any_below, first_of}
use Rattle.bar.specs.Range.{range, multiple, lies_in}
use Rattle.bar.specs.declared.range.Range.{Range}
use Rattle.bar.specs.declared.range.Aperture.{Aperture}
use Rattle.bar.specs.declared.memory_bar.MemoryBar.{MemoryBar}
use Rattle.bar.specs.declared.memory_bar.Request.{Request}
use Rattle.bar.specs.declared.memory_bar.Request.TheVariants.{Auto, Fixed}
use Rattle.placement.specs.Keys.{key_count}
use Rattle.placement.specs.Place.{no_range, is_place, lowest_of}
use Rattle.placement.specs.Order.{size_at, request_at, comes_before}
use Rattle.placement.specs.declared.placing.KeyRefusal.{KeyRefusal}

-- how placing stands: what each key has been given so far, or the key that is refused
abbrev pub Placing : Type 0
Placing = Result (List Range) KeyRefusal

abbrev pub refused_key : Refusal → ℕ → KeyRefusal
refused_key refusal key = record { refusal = refusal; key = key }

abbrev pub nothing_yet : List Range
nothing_yet = replicate key_count no_range

-- one step more, unless it was refused before
abbrev pub onward : (List Range → Placing) → Placing → Placing
onward step (Ok placed) = step placed
onward step (Err e) = Err e

-- a key's range, if nothing speaks against it
abbrev pub settled : Result Unit Refusal → List Range → ℕ → Range → Placing
settled (Ok u) placed key r = Ok (set placed key r)
settled (Err refusal) placed key r = Err (refused_key refusal key)

-- "checks 14, 15, 16 in that order": the first that fails, of a range that is no place
abbrev pub first_fault : Aperture → Range → Refusal
first_fault aperture r = cond (multiple r) (cond (lies_in aperture r) OverlapsPlaced OutsideAperture) NotMultiple

-- a fixed BAR goes through exactly if its range is a place
unfoldable pub fixed_verdict : Aperture → List Range → Range → Result Unit Refusal
fixed_verdict aperture placed r = cond (is_place aperture r.size placed r.start) (Ok tt) (Err (first_fault aperture r))

-- the BAR of a key in the first pass: an automatic one waits
abbrev pub fixed_bar : Aperture → ℕ → ℕ → Request → List Range → Placing
fixed_bar aperture key size Auto placed = Ok placed
fixed_bar aperture key size (Fixed a) placed = settled (fixed_verdict aperture placed (range a size)) placed key (range a size)

unfoldable pub fixed_step : Aperture → List MemoryBar → ℕ → List Range → Placing
fixed_step aperture bars key placed = fixed_bar aperture key (size_at bars key) (request_at bars key) placed

-- "Fixed BARs first, by device then slot": after the first n keys
unfoldable pub fixed_after : Aperture → List MemoryBar → ℕ → Placing
fixed_after aperture bars zero = Ok nothing_yet
fixed_after aperture bars (suc n) = onward (fixed_step aperture bars n) (fixed_after aperture bars n)

abbrev pub is_auto : Request → Bool
is_auto Auto = true
is_auto (Fixed a) = false

-- whether a key has an automatic BAR that is not placed yet
unfoldable pub waits : List MemoryBar → List Range → ℕ → Bool
waits bars placed key =
    is_auto (request_at bars key) && (ltb 0 (size_at bars key) && eqb (get_or placed key no_range).size 0)

-- the next one waits, and comes before every other that waits
unfoldable pub is_next : List MemoryBar → List Range → ℕ → Bool
is_next bars placed x =
    waits bars placed x && not (any_below (λ y. waits bars placed y && (not (eqb y x) && not (comes_before bars x y))) key_count)

unfoldable pub next_of : List MemoryBar → List Range → Option ℕ
next_of bars placed = first_of Some None (is_next bars placed) key_count

-- an automatic BAR takes the lowest place, or is refused
abbrev pub fitted : List Range → ℕ → ℕ → Option ℕ → Placing
fitted placed key size (Some a) = Ok (set placed key (range a size))
fitted placed key size None = Err (refused_key NoPlace key)

abbrev pub auto_bar : Aperture → List MemoryBar → List Range → Option ℕ → Placing
auto_bar aperture bars placed (Some key) =
    fitted placed key (size_at bars key) (lowest_of aperture (size_at bars key) placed)
auto_bar aperture bars placed None = Ok placed

unfoldable pub auto_step : Aperture → List MemoryBar → List Range → Placing
auto_step aperture bars placed = auto_bar aperture bars placed (next_of bars placed)

-- the second pass: after n more
unfoldable pub auto_after : Aperture → List MemoryBar → List Range → ℕ → Placing
auto_after aperture bars placed zero = Ok placed
auto_after aperture bars placed (suc n) = onward (auto_step aperture bars) (auto_after aperture bars placed n)

-- both passes: there are no more automatic BARs than keys
unfoldable pub placing_of : Aperture → List MemoryBar → Placing
placing_of aperture bars = onward (λ placed. auto_after aperture bars placed key_count) (fixed_after aperture bars key_count)
