-- Where a capability lies: its header and its body.
use Prim.Native.Nat.{ℕ, ◌+◌, ◌<◌, ◌≤◌}
use mathlib.Core.Bool.{true}
use mathlib.Core.Path.{◌≡◌}
use Rattle.word.proofs.Intervals.{covers_in, Within, covers_within}
use Rattle.capability.specs.Size.{header_size}
use Rattle.capability.specs.Owner.{capability_at, start_of}
use Rattle.capability.specs.Mode.{in_capability}
use Rattle.capability.specs.declared.placed.Placed.{Placed}

module _ (p : Placed) (j i : ℕ) where
  pub extent_in : start_of p i ≤ j → j < start_of p i + (header_size + (capability_at p i).length) → in_capability p j i ≡ true
  unfolding in_capability
  extent_in a b = covers_in (start_of p i) (header_size + (capability_at p i).length) j a b

  pub extent_within : in_capability p j i ≡ true → Within (start_of p i) (header_size + (capability_at p i).length) j
  unfolding in_capability
  extent_within e = covers_within (start_of p i) (header_size + (capability_at p i).length) j e
