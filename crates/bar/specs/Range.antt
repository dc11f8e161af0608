-- Ranges of addresses, for placement, relocation and lookup alike. Sums are of natural numbers, so no range wraps.
use Rattle.std.specs.Prelude.{ℕ, ◌+◌, ◌%◌, ◌^◌, Bool, ◌&&◌, cond, ltb, leb, eqb, Result, Ok, Err}
use Rattle.word.specs.Interval.{overlap}
use Rattle.bar.specs.declared.range.Range.{Range}
use Rattle.bar.specs.declared.range.Aperture.{Aperture}
use Rattle.refusal.specs.declared.refusal.Refusal.TheVariants as refusal
use Rattle.refusal.specs.declared.refusal.Refusal.{Refusal}

-- 4 GiB, where 32-bit addresses end
abbrev pub four_gib : ℕ
four_gib = 2 ^ 32

abbrev pub range : ℕ → ℕ → Range
range start size = record { start = start; size = size }

-- the first address past a range
abbrev pub end_of : Range → ℕ
end_of r = r.start + r.size

-- "is a multiple of size"
unfoldable pub multiple : Range → Bool
multiple r = eqb (r.start % r.size) 0

-- "its range lies in the aperture"
unfoldable pub lies_in : Aperture → Range → Bool
lies_in a r = leb a.start r.start && leb (end_of r) a.end

-- "meets": some address lies in both, so an empty range meets nothing
unfoldable pub meets : Range → Range → Bool
meets r s = overlap r.start r.size s.start s.size

-- refusal 8 is given unless start < end, and end is not above the most
abbrev pub aperture_ok : ℕ → ℕ → ℕ → Bool
aperture_ok most start end = ltb start end && leb end most

unfoldable pub aperture_of : ℕ → ℕ → ℕ → Result Aperture Refusal
aperture_of most start end =
    cond (aperture_ok most start end) (Ok (record { start = start; end = end })) (Err refusal.BadAperture)
