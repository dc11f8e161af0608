-- The worked examples, step by step: each pass computes but for the search, whose answer is shown to be the lowest place.
use Prim.Native.Nat.{ℕ, ◌<◌}
use mathlib.Core.Bool.{false}
use mathlib.Core.List.{List}
use mathlib.Core.Path.{◌≡◌, refl, ◌∙◌}
use native.Mathlib.Omega.{arith}
use lib.ListN.{get_or, set, replicate}
use Rattle.std.specs.Prelude.{Some, None, Ok, Err}
use Rattle.refusal.specs.declared.refusal.Refusal.TheVariants.{NotMultiple, OutsideAperture, OverlapsPlaced, NoPlace}
use Rattle.bar.specs.Range.{range, multiple, lies_in, meets}
use Rattle.bar.specs.declared.range.Range.{Range}
use Rattle.bar.proofs.Ranges.{multiple_zero, lies_from, lies_end, meeting_meets}
use Rattle.word.specs.Table.{table}
use Rattle.word.specs.Search.{any_below, first_below, first_of}
use Rattle.word.specs.Interval.{overlap}
use Rattle.word.proofs.Tests.{both, never}
use Rattle.placement.specs.Keys.{key_count}
use Rattle.placement.specs.Place.{no_range, meets_any, is_place, Lowest}
use Rattle.placement.specs.Keys.{slot_bar, declared_at, bars_of}
use Rattle.placement.specs.Order.{comes_before}
use Rattle.placement.specs.Passes.{refused_key, nothing_yet, fixed_verdict, fixed_step, fixed_after, waits, is_next, next_of, auto_after}
use Rattle.placement.specs.Answer.{addresses_of, refused_by, placement_of}
use Rattle.placement.specs.Examples.{p9_aperture, one_automatic, run_aperture, run_bars, run_addresses, two_fixed, asked, told}
use Rattle.placement.proofs.Places.{place_is, no_place_lem}
use Rattle.placement.proofs.Runs.{run_done, run_placed, run_refused, answer_from, answer_stopped}

-- P9: the aperture is as long as the BAR, and no multiple lies in it
pub p9_none : (placed : List Range) → Lowest p9_aperture 0x1000 placed None
p9_none placed b =
    no_place_lem p9_aperture 0x1000 placed b (λ p. omega (arith, multiple_zero (range b 0x1000) p.aligned, lies_from p9_aperture (range b 0x1000) p.within, lies_end p9_aperture (range b 0x1000) p.within))

p9_next : next_of (bars_of (one_automatic 0x1000)) (replicate key_count no_range) ≡ Some 2
unfolding next_of is_next waits comes_before first_of first_below any_below bars_of table declared_at slot_bar
p9_next = refl

p9_fixed : fixed_after p9_aperture (bars_of (one_automatic 0x1000)) key_count ≡ Ok nothing_yet
unfolding fixed_after fixed_step bars_of table declared_at slot_bar first_of first_below
p9_fixed = refl

p9_auto : auto_after p9_aperture (bars_of (one_automatic 0x1000)) nothing_yet key_count ≡ Err (refused_key NoPlace 2)
unfolding bars_of table declared_at slot_bar first_of first_below
p9_auto = run_refused p9_aperture (bars_of (one_automatic 0x1000)) (replicate key_count no_range) 47 2 p9_next (p9_none (replicate key_count no_range))

pub p9 : placement_of p9_aperture (one_automatic 0x1000) ≡ Err (refused_by NoPlace 7 2)
p9 = answer_from p9_aperture (one_automatic 0x1000) nothing_yet (Err (refused_key NoPlace 2)) p9_fixed p9_auto

-- the Run case: the fixed BAR first, then the larger of the two automatic ones
abbrev run1 : List Range
run1 = set (replicate key_count no_range) 1 (range 0x80000000 0x1000)

abbrev run2 : List Range
run2 = set run1 6 (range 0x80004000 0x4000)

abbrev run3 : List Range
run3 = set run2 0 (range 0x80001000 0x1000)

-- a multiple in the aperture below the answer is its start, which the fixed BAR has
run_below : (placed : List Range) (size b : ℕ) → b ≡ 0x80000000 → get_or placed 1 no_range ≡ range 0x80000000 0x1000 → 0 < size → is_place run_aperture size placed b ≡ false
run_below placed size b e f z =
    no_place_lem run_aperture size placed b (λ p.
    both (meeting_meets (range b size) (range 0x80000000 0x1000) (record { first_full = z; second_full = omega arith; first_starts = omega arith; second_starts = omega arith })) (rw f at (p.free 1)))

run_large : Lowest run_aperture 0x4000 run1 (Some 0x80004000)
unfolding is_place meets_any any_below multiple lies_in meets overlap
run_large = (
  refl,
  λ b h. never (is_place run_aperture 0x4000 run1 b) (λ t.
      let p = place_is run_aperture 0x4000 run1 b t in
      both t (run_below run1 0x4000 b (omega (arith, multiple_zero (range b 0x4000) p.aligned, lies_from run_aperture (range b 0x4000) p.within)) refl (omega arith))),
)

run_small : Lowest run_aperture 0x1000 run2 (Some 0x80001000)
unfolding is_place meets_any any_below multiple lies_in meets overlap
run_small = (
  refl,
  λ b h. never (is_place run_aperture 0x1000 run2 b) (λ t.
      let p = place_is run_aperture 0x1000 run2 b t in
      both t (run_below run2 0x1000 b (omega (arith, multiple_zero (range b 0x1000) p.aligned, lies_from run_aperture (range b 0x1000) p.within)) refl (omega arith))),
)

run_fixed : fixed_after run_aperture (bars_of run_bars) key_count ≡ Ok run1
unfolding fixed_after fixed_step fixed_verdict is_place meets_any any_below multiple lies_in meets overlap bars_of table declared_at slot_bar first_of first_below
run_fixed = refl

run_nexts : (next_of (bars_of run_bars) run1 ≡ Some 6) × (next_of (bars_of run_bars) run2 ≡ Some 0) × (next_of (bars_of run_bars) run3 ≡ None)
unfolding next_of is_next waits comes_before first_of first_below any_below bars_of table declared_at slot_bar
run_nexts = (refl, refl, refl)

run_auto : auto_after run_aperture (bars_of run_bars) run1 key_count ≡ Ok run3
unfolding bars_of table declared_at slot_bar first_of first_below
run_auto =
    run_placed run_aperture (bars_of run_bars) run1 47 6 0x80004000 run_nexts.0 run_large ∙
    run_placed run_aperture (bars_of run_bars) run2 46 0 0x80001000 run_nexts.1 run_small ∙
    run_done run_aperture (bars_of run_bars) run3 46 run_nexts.2

pub run : placement_of run_aperture run_bars ≡ Ok run_addresses
unfolding addresses_of table
run = answer_from run_aperture run_bars run1 (Ok run3) run_fixed run_auto

-- one refusal each of 14, 15 (the range ends at 2 ^ 64) and 16
fixed_refusals : (fixed_after run_aperture (bars_of (two_fixed 0x80008010)) key_count ≡ Err (refused_key NotMultiple 1)) × (fixed_after run_aperture (bars_of (two_fixed 0xfffffffffffff000)) key_count ≡ Err (refused_key OutsideAperture 1)) × (fixed_after run_aperture (bars_of (two_fixed 0x80003000)) key_count ≡ Err (refused_key OverlapsPlaced 1))
unfolding fixed_after fixed_step fixed_verdict is_place meets_any any_below multiple lies_in meets overlap bars_of table declared_at slot_bar first_of first_below
fixed_refusals = (refl, refl, refl)

-- the examples, as one statement
pub examples : asked ≡ told
unfolding asked told
examples =
    rw (p9, run, answer_stopped run_aperture (two_fixed 0x80008010) (refused_key NotMultiple 1) fixed_refusals.0, answer_stopped run_aperture (two_fixed 0xfffffffffffff000) (refused_key OutsideAperture 1) fixed_refusals.1, answer_stopped run_aperture (two_fixed 0x80003000) (refused_key OverlapsPlaced 1) fixed_refusals.2)
