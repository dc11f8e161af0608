-- Which capability holds a byte: what the search finds; and the mode of each byte, case by case.
use Prim.Native.Nat.{ℕ, ◌<◌}
use mathlib.Core.Bool.{true, false}
use mathlib.Core.List.{List}
use mathlib.Core.Path.{◌≡◌}
use lib.ListN.{get_or}
use Rattle.std.proofs.Common.{Some, None}
use Rattle.word.specs.Interval.{covers}
use Rattle.word.specs.Search.{any_below}
use Rattle.word.proofs.Searches.{First, any_never, first_is, first_none}
use Rattle.word.proofs.Listed.{some_first, none_first}
use Rattle.capability.specs.Size.{header_size}
use Rattle.capability.specs.Owner.{capability_count, start_of, owner_of}
use Rattle.capability.specs.Mode.{in_capability, holder_of, body_mode, byte_mode_of}
use Rattle.capability.specs.declared.placed.Placed.{Placed}
use Rattle.capability.specs.declared.byte_mode.ByteMode.TheVariants as mode

module _ (p : Placed) (j : ℕ) where
  abbrev many : ℕ
  many = capability_count p

  -- what the search finds
  pub holder_is : (i : ℕ) → i < many → any_below (in_capability p j) i ≡ false → in_capability p j i ≡ true → holder_of p j ≡ Some i
  unfolding holder_of
  holder_is i h b e =
      first_is Some None (in_capability p j) many i (record { below = h; before = any_never (in_capability p j) i b; here = e })

  -- "outside every capability" exactly if nobody holds the byte
  pub outside_nobody : ((k : ℕ) → k < many → in_capability p j k ≡ false) → holder_of p j ≡ None
  unfolding holder_of
  outside_nobody h = first_none Some None (in_capability p j) many h

  pub nobody_outside : holder_of p j ≡ None → (k : ℕ) → k < many → in_capability p j k ≡ false
  unfolding holder_of
  nobody_outside e = none_first (in_capability p j) many e

  -- the holder is the first capability that covers the byte
  pub holder_first : (i : ℕ) → holder_of p j ≡ Some i → First (in_capability p j) many i
  unfolding holder_of
  holder_first i e = some_first (in_capability p j) many i e

  module _ (mask : List ℕ) where
    pub mode_outside : holder_of p j ≡ None → byte_mode_of p mask j ≡ None
    unfolding byte_mode_of
    mode_outside e = rw e

    module _ (i : ℕ) (e : holder_of p j ≡ Some i) where
      pub mode_header : covers (start_of p i) header_size j ≡ true → byte_mode_of p mask j ≡ Some mode.Constant
      unfolding byte_mode_of
      mode_header t = rw (e, t)

      pub mode_body : covers (start_of p i) header_size j ≡ false → byte_mode_of p mask j ≡ Some (body_mode (owner_of p j) (get_or mask j 0))
      unfolding byte_mode_of
      mode_body t = rw (e, t)
