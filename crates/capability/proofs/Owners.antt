-- Who owns a byte, and which effect an access touches first: one search, for two tests.
use Prim.Native.Nat.{ℕ, ◌+◌, ◌<◌}
use mathlib.Core.Bool.{false}
use mathlib.Core.Path.{◌≡◌}
use native.Mathlib.Omega.{arith}
use Rattle.std.proofs.Common.{Some, None}
use Rattle.word.proofs.Tests.{same_test}
use Rattle.word.proofs.Searches.{First, first_is, first_none, first_same}
use Rattle.word.proofs.Listed.{some_first, none_first}
use Rattle.capability.specs.Owner.{effect_count, in_region, owner_of, touches, first_touched}
use Rattle.capability.specs.declared.placed.Placed.{Placed}
use Rattle.capability.proofs.Regions.{touched_at, at_touched}

module _ (p : Placed) where
  abbrev many : ℕ
  many = effect_count p

  -- the owner is the first effect that covers the byte
  pub owner_is : (j i : ℕ) → First (in_region p j) many i → owner_of p j ≡ Some i
  unfolding owner_of
  owner_is j i f = first_is Some None (in_region p j) many i f

  pub owner_first : (j i : ℕ) → owner_of p j ≡ Some i → First (in_region p j) many i
  unfolding owner_of
  owner_first j i e = some_first (in_region p j) many i e

  -- and there is none exactly where no effect covers it
  pub owner_none : (j : ℕ) → ((k : ℕ) → k < many → in_region p j k ≡ false) → owner_of p j ≡ None
  unfolding owner_of
  owner_none j h = first_none Some None (in_region p j) many h

  pub owner_never : (j : ℕ) → owner_of p j ≡ None → (k : ℕ) → k < many → in_region p j k ≡ false
  unfolding owner_of
  owner_never j e = none_first (in_region p j) many e

  -- an access of one byte touches its owner first
  one_byte : (j k : ℕ) → touches p j 1 k ≡ in_region p j k
  one_byte j k =
      let e : j + 0 ≡ j = omega arith in
      same_test (touches p j 1 k) (in_region p j k)
      (λ t. let r = touched_at p j 1 k t in let q : j + r.0 ≡ j = omega (arith, r.1) in rw q at r.2)
      (λ t. at_touched p j 1 k 0 (omega arith) (rw e t))

  pub touched_byte : (j : ℕ) → first_touched p j 1 ≡ owner_of p j
  unfolding first_touched owner_of
  touched_byte j = first_same Some None (touches p j 1) (in_region p j) many (λ k h. one_byte j k)
