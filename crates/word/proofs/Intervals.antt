-- Intervals: what an access covers, and when two have a number in common.
use Prim.Native.Nat.{ℕ, ◌+◌, ◌-◌, ◌<◌, ◌≤◌, min, max}
use mathlib.Core.Bool.{Bool, true, false, ◌&&◌, and-false}
use mathlib.Core.Path.{◌≡◌, ap}
use native.Mathlib.Omega.{arith}
use borrow.Author.Tests.{ltb-true, ltb-false, leb-true, lt-ltb, le-ltb, le-leb, lt-leb}
use lib.Dec.{ltb, leb}
use Rattle.word.specs.Interval.{covers, overlap}
use Rattle.word.proofs.Tests.{and_left, and_right, same_test, ltb_same}

-- an access covers what lies from its offset up to its end
pub covers_in : (o w j : ℕ) → o ≤ j → j < o + w → covers o w j ≡ true
unfolding covers
covers_in o w j h k = rw (le-leb o j h, lt-ltb j (o + w) k)

pub covers_before : (o w j : ℕ) → j < o → covers o w j ≡ false
unfolding covers
covers_before o w j h = rw (lt-leb o j h)

pub covers_after : (o w j : ℕ) → o + w ≤ j → covers o w j ≡ false
unfolding covers
covers_after o w j h = rw (le-ltb j (o + w) h) (and-false (leb o j))

-- and only that
pub record Within (o w j : ℕ) : Type 0 where
  pub from : o ≤ j
  pub to : j < o + w

pub covers_within : (o w j : ℕ) → covers o w j ≡ true → Within o w j
unfolding covers
covers_within o w j e =
    record { from = leb-true o j (and_left (leb o j) (ltb j (o + w)) e); to = ltb-true j (o + w) (and_right (leb o j) (ltb j (o + w)) e) }

-- two ends with nothing at j between them cover it alike
pub covers_same : (o w u j : ℕ) → (j < o + w → j < o + u) → (j < o + u → j < o + w) → covers o w j ≡ covers o u j
unfolding covers
covers_same o w u j f g = ap (λ (t : Bool). leb o j && t) (ltb_same j (o + w) j (o + u) f g)

-- from its start on, what is left of it decides
pub covers_rest : (o w j : ℕ) → o ≤ j → ltb (j - o) w ≡ covers o w j
unfolding covers
covers_rest o w j h = rw (le-leb o j h) (ltb_same (j - o) w j (o + w) (λ k. omega arith) (λ k. omega arith))

-- two intervals that overlap: neither is empty, and each starts before the other ends
pub record Meeting (o w p v : ℕ) : Type 0 where
  pub first_full : 0 < w
  pub second_full : 0 < v
  pub first_starts : o < p + v
  pub second_starts : p < o + w

pub overlap_meeting : (o w p v : ℕ) → overlap o w p v ≡ true → Meeting o w p v
unfolding overlap
overlap_meeting o w p v e =
    let h = ltb-true (max o p) (min (o + w) (p + v)) e in
    record { first_full = omega arith; second_full = omega arith; first_starts = omega arith; second_starts = omega arith }

pub meeting_overlap : (o w p v : ℕ) → Meeting o w p v → overlap o w p v ≡ true
unfolding overlap
meeting_overlap o w p v m = lt-ltb (max o p) (min (o + w) (p + v)) (omega (arith, m.first_full, m.second_full, m.first_starts, m.second_starts))

-- they overlap exactly if some number lies in both
pub overlap_common : (o w p v : ℕ) → overlap o w p v ≡ true → (j : ℕ) × (covers o w j ≡ true) × (covers p v j ≡ true)
overlap_common o w p v e =
    let m = overlap_meeting o w p v e in
    (max o p, covers_in o w (max o p) (omega arith) (omega (arith, m.first_full, m.second_starts)), covers_in p v (max o p) (omega arith) (omega (arith, m.second_full, m.first_starts)))

pub common_overlap : (o w p v j : ℕ) → covers o w j ≡ true → covers p v j ≡ true → overlap o w p v ≡ true
common_overlap o w p v j a b =
    let x = covers_within o w j a in
    let y = covers_within p v j b in
    meeting_overlap o w p v (record { first_full = omega (arith, x.from, x.to); second_full = omega (arith, y.from, y.to); first_starts = omega (arith, x.from, y.to); second_starts = omega (arith, y.from, x.to) })

pub overlap_sym : (o w p v : ℕ) → overlap o w p v ≡ overlap p v o w
overlap_sym o w p v = same_test (overlap o w p v) (overlap p v o w) (turned o w p v) (turned p v o w)
  where
    turned : (o w p v : ℕ) → overlap o w p v ≡ true → overlap p v o w ≡ true
    turned o w p v e =
        let m = overlap_meeting o w p v e in
        meeting_overlap p v o w (record { first_full = m.second_full; second_full = m.first_full; first_starts = m.second_starts; second_starts = m.first_starts })

-- those that do not lie one after the other, or one is empty
pub overlap_not : (o w p v : ℕ) → overlap o w p v ≡ false → min (o + w) (p + v) ≤ max o p
unfolding overlap
overlap_not o w p v e = ltb-false (max o p) (min (o + w) (p + v)) e

pub apart_overlap : (o w p v : ℕ) → min (o + w) (p + v) ≤ max o p → overlap o w p v ≡ false
unfolding overlap
apart_overlap o w p v h = le-ltb (max o p) (min (o + w) (p + v)) h

-- of two, the one that starts first has to reach the other's start, and that one must not be empty
pub overlap_reach : (o w p v : ℕ) → o ≤ p → 0 < v → ltb (p - o) w ≡ overlap o w p v
unfolding overlap
overlap_reach o w p v h k = ltb_same (p - o) w (max o p) (min (o + w) (p + v)) (λ l. omega arith) (λ l. omega arith)

pub overlap_back : (o w p v : ℕ) → p ≤ o → 0 < w → ltb (o - p) v ≡ overlap o w p v
unfolding overlap
overlap_back o w p v h k = ltb_same (o - p) v (max o p) (min (o + w) (p + v)) (λ l. omega arith) (λ l. omega arith)
