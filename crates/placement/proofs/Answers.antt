-- What an accepted placement says of all BARs at once: of two, the later one is clear of the earlier.
use Prim.Native.Nat.{ℕ, ◌+◌, ◌<◌, ◌≤◌}
use mathlib.Core.Bool.{true, false}
use mathlib.Core.List.{List}
use mathlib.Core.Logic.{⊎_elim}
use mathlib.Core.Path.{◌≡◌, ◌∙◌}
use native.Mathlib.Omega.{arith}
use lib.ListN.{get_or}
use Rattle.std.specs.Prelude.{Some, Ok}
use Rattle.word.proofs.Tests.{below_or_not}
use Rattle.word.proofs.Tables.{get_or_table}
use Rattle.bar.specs.Range.{four_gib, meets}
use Rattle.bar.specs.Bar.{no_bar}
use Rattle.bar.specs.State.{fresh}
use Rattle.bar.specs.Bounded.{Bounded}
use Rattle.bar.specs.declared.range.Aperture.{Aperture}
use Rattle.bar.specs.declared.bar_state.Plan.{Plan}
use Rattle.bar.specs.declared.memory_bar.MemoryBar.{MemoryBar}
use Rattle.bar.specs.declared.memory_bar.Request.TheVariants.{Auto, Fixed}
use Rattle.bar.proofs.Ranges.{meets_sym, empty_first, empty_second}
use Rattle.bar.proofs.States.{fresh_bounded}
use Rattle.placement.specs.Keys.{key_count, declared_at, bars_of}
use Rattle.placement.specs.Place.{is_place, Lowest}
use Rattle.placement.specs.Order.{size_at, request_at, precedes, range_at, placed_before}
use Rattle.placement.specs.Answer.{placement_of}
use Rattle.placement.specs.Outcome.{AllGiven, Resolved}
use Rattle.placement.specs.declared.declared_bars.DeclaredBars.{DeclaredBars}
use Rattle.placement.proofs.Places.{place_is, place_end}
use Rattle.placement.proofs.Orders.{one_precedes}
use Rattle.placement.proofs.Rules.{by_request}
use Rattle.placement.proofs.Sounds.{before_at_lem}
use Rattle.placement.proofs.Outcomes.{when_accepted}

-- the BAR at a key
pub bars_at : (d : DeclaredBars) (k : ℕ) → k < key_count → get_or (bars_of d) k no_bar ≡ declared_at d k
unfolding bars_of
bars_at d k h = get_or_table key_count (declared_at d) k no_bar h

module _ (aperture : Aperture) (bars : List MemoryBar) (addresses : List ℕ) (a : AllGiven aperture bars addresses) where
  -- a fixed BAR's address is a place, and that of any BAR with a size
  fixed_place : (k b : ℕ) → k < key_count → request_at bars k ≡ Fixed b → is_place aperture (size_at bars k) (placed_before bars addresses k) (get_or addresses k 0) ≡ true
  fixed_place k b h e = let g = (a.given k h).fixed b e in rw g.0 g.1

  place_at : (k : ℕ) → k < key_count → 0 < size_at bars k → is_place aperture (size_at bars k) (placed_before bars addresses k) (get_or addresses k 0) ≡ true
  place_at k h z =
      ⊎_elim (λ (e : request_at bars k ≡ Auto). ((a.given k h).automatic e z).0) (λ e. fixed_place k e.0 h e.1) (by_request (request_at bars k))

  -- which is clear of what is placed before
  clear_before : (j k : ℕ) → j < key_count → k < key_count → 0 < size_at bars k → precedes bars j k ≡ true → meets (range_at bars addresses k) (range_at bars addresses j) ≡ false
  clear_before j k h l z e =
      let p = (place_is aperture (size_at bars k) (placed_before bars addresses k) (get_or addresses k 0) (place_at k l z)).free j in
      rw (before_at_lem bars addresses k j h, e) at p

  clear : (j k : ℕ) → j < key_count → k < key_count → (j ≡ k → ⊥) → meets (range_at bars addresses j) (range_at bars addresses k) ≡ false
  clear j k h l d =
      ⊎_elim (λ (y : 0 < size_at bars j).
      ⊎_elim (λ (z : 0 < size_at bars k).
      ⊎_elim (λ e. meets_sym (range_at bars addresses j) (range_at bars addresses k) ∙ clear_before j k h l z e) (λ e. clear_before k j l h y e) (one_precedes bars j k d))
      (λ (z : size_at bars k ≤ 0). empty_second (range_at bars addresses j) (range_at bars addresses k) (omega arith))
      (below_or_not 0 (size_at bars k)))
      (λ (y : size_at bars j ≤ 0). empty_first (range_at bars addresses j) (range_at bars addresses k) (omega arith))
      (below_or_not 0 (size_at bars j))

  pub accepted_resolved : Resolved aperture bars addresses
  accepted_resolved =
      record {
        aligned = λ k h z. (place_is aperture (size_at bars k) (placed_before bars addresses k) (get_or addresses k 0) (place_at k h z)).aligned;
        within = λ k h z. (place_is aperture (size_at bars k) (placed_before bars addresses k) (get_or addresses k 0) (place_at k h z)).within;
        apart = clear;
        fixed = λ k b h e. ((a.given k h).fixed b e).0;
      }

  -- an address and its BAR's size end in the aperture; where there is no BAR both are 0
  pub accepted_end : (k most : ℕ) → k < key_count → aperture.end ≤ most → get_or addresses k 0 + size_at bars k ≤ most
  accepted_end k most h l =
      ⊎_elim (λ (e : request_at bars k ≡ Auto).
      ⊎_elim (λ (z : 0 < size_at bars k). omega (arith, place_end aperture (size_at bars k) (placed_before bars addresses k) (get_or addresses k 0) (place_at k h z)))
      (λ (z : size_at bars k ≤ 0). let n : get_or addresses k 0 ≡ 0 = (a.given k h).none e (omega arith) in omega arith)
      (below_or_not 0 (size_at bars k)))
      (λ e. omega (arith, place_end aperture (size_at bars k) (placed_before bars addresses k) (get_or addresses k 0) (fixed_place k e.0 h e.1)))
      (by_request (request_at bars k))

module _ (aperture : Aperture) (d : DeclaredBars) (addresses : List ℕ) (e : placement_of aperture d ≡ Ok addresses) where
  abbrev bars : List MemoryBar
  bars = bars_of d

  pub placement_resolved : Resolved aperture bars addresses
  placement_resolved = accepted_resolved aperture bars addresses (when_accepted aperture d addresses e)

  -- an automatic BAR has the lowest place that those placed before it leave
  pub automatic_lowest : (k : ℕ) → k < key_count → request_at bars k ≡ Auto → 0 < size_at bars k → Lowest aperture (size_at bars k) (placed_before bars addresses k) (Some (get_or addresses k 0))
  automatic_lowest k h f z = ((when_accepted aperture d addresses e).given k h).automatic f z

  -- in an aperture that ends at 4 GiB at most, so does every BAR
  module _ (h : aperture.end ≤ four_gib) (k : ℕ) (l : k < key_count) where
    pub placement_end : get_or addresses k 0 + size_at bars k ≤ four_gib
    placement_end = accepted_end aperture bars addresses (when_accepted aperture d addresses e) k four_gib l h

    pub placement_bounded : 0 < size_at bars k → (p : Plan) → p.address ≡ get_or addresses k 0 → Bounded (fresh p)
    placement_bounded z p q = fresh_bounded p (omega (arith, placement_end))
