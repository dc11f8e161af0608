-- An access and a region, byte by byte and as intervals.
use Prim.Native.Nat.{ℕ, ◌+◌, ◌-◌, ◌<◌, ◌≤◌}
use mathlib.Core.Bool.{true, false}
use mathlib.Core.Path.{◌≡◌, ap}
use native.Mathlib.Omega.{arith}
use borrow.Author.Tests.{leb-true, le-leb}
use lib.Dec.{leb}
use Rattle.word.proofs.Tests.{both, never, same_test}
use Rattle.word.proofs.Searches.{all_each, each_all}
use Rattle.word.proofs.Intervals.{covers_in, covers_within, Within, Meeting, overlap_meeting, meeting_overlap, overlap_common, common_overlap}
use Rattle.capability.specs.Owner.{effect_at, region_start, region_from, region_to, in_region, touches, holds}
use Rattle.capability.specs.declared.placed.Placed.{Placed}
use Rattle.capability.specs.declared.placed.PlacedEffect.{PlacedEffect}

module _ (p : Placed) (i : ℕ) where
  pub region_within : (j : ℕ) → in_region p j i ≡ true → Within (region_from p i) (effect_at p i).length j
  unfolding in_region
  region_within j e = covers_within (region_from p i) (effect_at p i).length j e

  pub within_region : (j : ℕ) → region_from p i ≤ j → j < region_to p i → in_region p j i ≡ true
  unfolding in_region
  within_region j a b = covers_in (region_from p i) (effect_at p i).length j a b

-- an access touches a region where some byte of it lies in the region
module _ (p : Placed) (o w i : ℕ) where
  pub touched_at : touches p o w i ≡ true → (k : ℕ) × (k < w) × (in_region p (o + k) i ≡ true)
  unfolding touches in_region
  touched_at e =
      let r = overlap_common o w (region_from p i) (effect_at p i).length e in
      let a = covers_within o w r.0 r.1 in
      let q : o + (r.0 - o) ≡ r.0 = omega (arith, a.from) in
      (r.0 - o, omega (arith, a.from, a.to), rw q r.2)

  pub at_touched : (k : ℕ) → k < w → in_region p (o + k) i ≡ true → touches p o w i ≡ true
  unfolding touches in_region
  at_touched k h e = common_overlap o w (region_from p i) (effect_at p i).length (o + k) (covers_in o w (o + k) (omega arith) (omega arith)) e

  pub untouched_at : touches p o w i ≡ false → (k : ℕ) → k < w → in_region p (o + k) i ≡ false
  untouched_at e k h = never (in_region p (o + k) i) (λ t. both (at_touched k h t) e)

  -- that is, where the two overlap
  pub touches_meeting : touches p o w i ≡ true → Meeting o w (region_from p i) (effect_at p i).length
  unfolding touches
  touches_meeting e = overlap_meeting o w (region_from p i) (effect_at p i).length e

  pub meeting_touches : Meeting o w (region_from p i) (effect_at p i).length → touches p o w i ≡ true
  unfolding touches
  meeting_touches m = meeting_overlap o w (region_from p i) (effect_at p i).length m

  -- it is held where every byte lies in the region
  pub held_at : holds p o w i ≡ true → (k : ℕ) → k < w → in_region p (o + k) i ≡ true
  unfolding holds
  held_at e k h = all_each (λ k. in_region p (o + k) i) w e k h

  pub at_held : ((k : ℕ) → k < w → in_region p (o + k) i ≡ true) → holds p o w i ≡ true
  unfolding holds
  at_held h = each_all (λ k. in_region p (o + k) i) w h

  -- that is, where it lies between the region's ends
  pub holds_is : region_from p i ≤ o → o + w ≤ region_to p i → holds p o w i ≡ true
  holds_is a b = at_held (λ k h. within_region p i (o + k) (omega arith) (omega arith))

  pub record Inside : Type 0 where
    pub from_start : region_from p i ≤ o
    pub to_end : o + w ≤ region_to p i

  pub holds_inside : 0 < w → holds p o w i ≡ true → Inside
  holds_inside h e =
      let a = region_within p i (o + 0) (held_at e 0 h) in
      let b = region_within p i (o + (w - 1)) (held_at e (w - 1) (omega arith)) in
      record { from_start = omega (arith, a, b); to_end = omega (arith, a, b) }

-- the tests of `effect_holds`, on the effect e that was read at i and the start s of its region
module _ (p : Placed) (i o w : ℕ) (e : PlacedEffect) (s : ℕ) (is-effect : e ≡ effect_at p i) (is-start : s ≡ region_start p e) where
  start_is : s ≡ region_from p i
  start_is = rw is-effect at is-start

  length_is : e.length ≡ (effect_at p i).length
  length_is = ap (λ (x : PlacedEffect). x.length) is-effect

  pub held_before : 0 < w → o < s → holds p o w i ≡ false
  held_before z h = never (holds p o w i) (λ t. omega (arith, holds_inside p o w i z t, start_is))

  pub held_past : 0 < w → s ≤ o → e.length < o - s → holds p o w i ≡ false
  held_past z h l = never (holds p o w i) (λ t. omega (arith, holds_inside p o w i z t, start_is, length_is))

  pub held_test : 0 < w → s ≤ o → o - s ≤ e.length → leb w (e.length - (o - s)) ≡ holds p o w i
  held_test z h l =
      same_test (leb w (e.length - (o - s))) (holds p o w i)
      (λ t. let k = leb-true w (e.length - (o - s)) t in holds_is p o w i (omega (arith, start_is)) (omega (arith, start_is, length_is)))
      (λ t. le-leb w (e.length - (o - s)) (omega (arith, holds_inside p o w i z t, start_is, length_is)))

-- an access of no bytes is held by every region
pub held_none : (p : Placed) (i o w : ℕ) → w ≡ 0 → holds p o w i ≡ true
held_none p i o w z = at_held p o w i (λ k h. absurd (omega arith))
