-- The capabilities of a function by index: those that are counted and kept, and where a layout puts them.
use Prim.Native.Nat.{ℕ, ◌<◌, ◌≤◌}
use mathlib.Core.Bool.{true}
use mathlib.Core.Logic.{⊎_elim}
use mathlib.Core.Path.{◌≡◌, ap, sym}
use native.Mathlib.Nat.{eq-or-lt_of_le}
use native.Mathlib.Omega.{arith}
use lib.ListN.{length, get_or, length-take, get_or-eq_default}
use lib.Seq.{get_or-take}
use Rattle.address.specs.Layout.{config_space_size, standard_header_end}
use Rattle.word.proofs.Tests.{below_or_not}
use Rattle.capability.specs.Laid.{Laid, finish_of}
use Rattle.capability.specs.Owner.{capability_count, start_of, capabilities_of, capability_at}
use Rattle.capability.specs.Mode.{in_capability}
use Rattle.capability.specs.Blank.{no_placed_capability}
use Rattle.capability.specs.declared.placed.Placed.{Placed}
use Rattle.capability.specs.declared.placed.PlacedCapability.{PlacedCapability}
use Rattle.capability.proofs.Extents.{extent_within}

module _ (p : Placed) (i : ℕ) where
  -- past the last capability there is no offset
  pub start_past : capability_count p ≤ i → start_of p i ≡ 0
  start_past h = ap (λ (c : PlacedCapability). c.offset.0) (get_or-eq_default (capabilities_of p) no_placed_capability {n = i} h)

  -- a capability that is counted is one of the list
  pub kept_below : i < capability_count p → i < length p.capabilities
  kept_below h = omega (arith, rw (length-take p.count p.capabilities) at h)

  pub kept_is : i < capability_count p → capability_at p i ≡ get_or p.capabilities i no_placed_capability
  kept_is h = get_or-take p.count p.capabilities i no_placed_capability (omega (arith, rw (length-take p.count p.capabilities) at h))

module _ (p : Placed) (l : Laid config_space_size p) where
  pub starts_from : (i : ℕ) → i < capability_count p → standard_header_end ≤ start_of p i
  starts_from i h = l.from i (rw l.counted at h)

  pub ends_inside : (i : ℕ) → i < capability_count p → finish_of p i ≤ config_space_size
  ends_inside i h = l.inside i (rw l.counted at h)

  pub starts_after : (i k : ℕ) → i < k → k < capability_count p → finish_of p i ≤ start_of p k
  starts_after i k h m = l.ascends i k h (rw l.counted at m)

  -- every offset of the list is a byte
  pub start_byte : (i : ℕ) → start_of p i < 256
  start_byte i = ⊎_elim (λ (h : i < capability_count p). omega (arith, ends_inside i h)) (λ (h : capability_count p ≤ i). rw (start_past p i h) (omega arith)) (below_or_not i (capability_count p))

  -- no place lies in two capabilities
  pub held_by_one : (i k j : ℕ) → i < capability_count p → k < capability_count p → in_capability p j i ≡ true → in_capability p j k ≡ true → i ≡ k
  held_by_one i k j a b x y =
      let w = extent_within p j i x in
      let v = extent_within p j k y in
      ⊎_elim (λ (h : i < k). absurd (omega (arith, starts_after i k h b, w.to, v.from)))
      (λ (h : k ≤ i). ⊎_elim (λ (q : k ≡ i). sym q) (λ (m : k < i). absurd (omega (arith, starts_after k i m a, v.to, w.from))) (eq-or-lt_of_le {n = k} {m = i} h))
      (below_or_not i k)
