-- The turns of the search. Below the next candidate there is no place, and each turn passes one of the placed ranges for good.
use Prim.Native.Nat.{ℕ, suc, ◌^◌, ◌<◌, ◌≤◌}
use mathlib.Core.Bool.{true, false}
use mathlib.Core.List.{List}
use mathlib.Core.Logic.{⊎_elim}
use mathlib.Core.Path.{◌≡◌, refl}
use native.Mathlib.Omega.{arith}
use borrow.Author.Tests.{lt-ltb, le-ltb, ltb-true}
use lib.Dec.{ltb}
use lib.ListN.{length, get_or}
use Rattle.word.proofs.Tests.{below_or_not, both, never}
use Rattle.bar.specs.Range.{range, end_of, lies_in, meets}
use Rattle.bar.specs.declared.range.Range.{Range}
use Rattle.bar.specs.declared.range.Aperture.{Aperture}
use Rattle.bar.proofs.Ranges.{meets_meeting, meeting_meets, lies_from, lies}
use Rattle.placement.specs.Place.{no_range, meets_any, is_place, Lowest}
use Rattle.placement.specs.Skip.{multiple_from, aligned_from}
use Rattle.std.specs.Prelude.{Option, Some, None}
use Rattle.placement.proofs.Counts.{counted, counted_less}
use Rattle.placement.proofs.Places.{place_is, is_place_lem, no_place_lem, place_end, free_of}
use Rattle.placement.proofs.Skips.{is_multiple_from, aligned_is, multiple_from_le, multiple_from_multiple}

-- what holds at a turn: the next candidate is the least multiple from some number on, below which there is no place
pub record Turn (aperture : Aperture) (size : ℕ) (placed : List Range) (next : Option ℕ) : Type 0 where
  pub from : ℕ
  pub next_is : next ≡ aligned_from from size
  pub reached : aperture.start ≤ from
  pub none : (b : ℕ) → b < from → is_place aperture size placed b ≡ false

module _ (aperture : Aperture) (size : ℕ) (placed : List Range) where
  pub turn_first : Turn aperture size placed (aligned_from aperture.start size)
  turn_first =
      record { from = aperture.start; next_is = refl; reached = omega arith; none = λ b h. no_place_lem aperture size placed b (λ p. absurd (omega (arith, lies_from aperture (range b size) p.within))) }

  -- every place is a multiple from that number on, so not below the candidate
  turn_from : (next : Option ℕ) (t : Turn aperture size placed next) (b : ℕ) → is_place aperture size placed b ≡ true → multiple_from t.from size b ≡ true
  turn_from next t b e =
      ⊎_elim (λ (h : b < t.from). absurd (both e (t.none b h))) (λ (h : t.from ≤ b). is_multiple_from t.from size b h (place_is aperture size placed b e).aligned) (below_or_not b t.from)

  turn_below : (start : ℕ) → Turn aperture size placed (Some start) → (b : ℕ) → b < start → is_place aperture size placed b ≡ false
  turn_below start t b h =
      never (is_place aperture size placed b) (λ e. both (turn_from (Some start) t b e) ((aligned_is t.from size (Some start) t.next_is).2 b h))

  -- no multiple is left in 64 bits
  pub turn_nothing : aperture.end < 2 ^ 64 → Turn aperture size placed None → Lowest aperture size placed None
  turn_nothing h t = λ b.
      never (is_place aperture size placed b) (λ e. both (turn_from None t b e) (aligned_is t.from size None t.next_is b (omega (arith, place_end aperture size placed b e))))

  -- the candidate ends past the aperture, and so does every later one
  pub turn_outside : (start : ℕ) → Turn aperture size placed (Some start) → lies_in aperture (range start size) ≡ false → Lowest aperture size placed None
  turn_outside start t f = λ b.
      ⊎_elim (λ (h : b < start). turn_below start t b h)
      (λ (h : start ≤ b).
      never (is_place aperture size placed b) (λ e.
      both (lies aperture (range start size) (omega (arith, t.reached, multiple_from_le t.from size start (aligned_is t.from size (Some start) t.next_is).1)) (omega (arith, place_end aperture size placed b e))) f))
      (below_or_not b start)

  pub turn_found : (start : ℕ) → Turn aperture size placed (Some start) → lies_in aperture (range start size) ≡ true → meets_any (range start size) placed ≡ false → Lowest aperture size placed (Some start)
  turn_found start t l f = (
    is_place_lem aperture size placed start
        (record { aligned = multiple_from_multiple t.from size start (aligned_is t.from size (Some start) t.next_is).1; within = l; free = free_of (range start size) placed f }),
    turn_below start t,
  )

  -- from a candidate on, whatever starts before the end of a range that it meets meets it too
  pub turn_past : (start i : ℕ) (p : Range) → Turn aperture size placed (Some start) → p ≡ get_or placed i no_range → meets (range start size) p ≡ true → Turn aperture size placed (aligned_from (end_of p) size)
  turn_past start i p t e m =
      let k = meets_meeting (range start size) p m in
      record {
        from = end_of p;
        next_is = refl;
        reached = omega (arith, t.reached, k.first_starts, multiple_from_le t.from size start (aligned_is t.from size (Some start) t.next_is).1);
        none = λ b h.
            ⊎_elim (λ (l : b < start). turn_below start t b l)
            (λ (l : start ≤ b).
            no_place_lem aperture size placed b (λ q.
            both (meeting_meets (range b size) p (record { first_full = k.first_full; second_full = k.second_full; first_starts = h; second_starts = omega (arith, k.second_starts) })) (rw e (q.free i))))
            (below_or_not b start);
      }

-- how many of the placed ranges a candidate has yet to pass, and the turn itself
abbrev pub left : List Range → Option ℕ → ℕ
left placed None = 0
left placed (Some start) = suc (counted (λ i. ltb start (end_of (get_or placed i no_range))) (length placed))

-- a turn passes the range that is met
pub left_falls : (placed : List Range) (start size i : ℕ) (p : Range) (next : Option ℕ) → i < length placed → p ≡ get_or placed i no_range → meets (range start size) p ≡ true → next ≡ aligned_from (end_of p) size → left placed next < left placed (Some start)
left_falls placed start size i p None h e m q = omega arith
left_falls placed start size i p (Some a) h e m q =
    let past : end_of p ≤ a = multiple_from_le (end_of p) size a (aligned_is (end_of p) size (Some a) q).1 in
    let met = meets_meeting (range start size) p m in
    omega (arith, counted_less (λ i. ltb start (end_of (get_or placed i no_range))) (λ i. ltb a (end_of (get_or placed i no_range))) (λ j t. lt-ltb start (end_of (get_or placed j no_range)) (omega (arith, met.first_starts, ltb-true a (end_of (get_or placed j no_range)) t))) i (length placed) h (lt-ltb start (end_of (get_or placed i no_range)) (rw (← e) met.first_starts)) (le-ltb a (end_of (get_or placed i no_range)) (rw (← e) past)))
