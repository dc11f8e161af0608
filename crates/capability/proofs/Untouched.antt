-- What no effect touches: the standard header, and the two bytes before a capability's body.
use Prim.Native.Nat.{ℕ, ◌+◌, ◌<◌, ◌≤◌}
use mathlib.Core.Bool.{Bool, true}
use mathlib.Core.Path.{◌≡◌, ap}
use native.Mathlib.Omega.{arith}
use Rattle.std.proofs.Common.{None, Ok}
use Rattle.word.proofs.Tests.{never}
use Rattle.address.specs.Layout.{standard_header_end}
use Rattle.capability.specs.Size.{header_size}
use Rattle.capability.specs.Owner.{capability_count, effect_count, effect_at, start_of, region_start, touches}
use Rattle.capability.specs.Touch.{touch_of}
use Rattle.capability.specs.Laid.{Laid}
use Rattle.capability.specs.LaidApart.{LaidApart}
use Rattle.capability.specs.declared.placed.Placed.{Placed}
use Rattle.capability.proofs.Aparts.{region_inside}
use Rattle.capability.proofs.Extents.{extent_in}
use Rattle.capability.proofs.Regions.{touches_meeting}
use Rattle.capability.proofs.Touches.{touch_untouched}

module _ (p : Placed) (g : LaidApart p) where
  pub low_untouched : (space : ℕ) → Laid space p → (o w : ℕ) (write : Bool) → o + w ≤ standard_header_end + header_size → touch_of p o w write ≡ Ok None
  low_untouched space l o w write h =
      touch_untouched p o w write (λ e m. never (touches p o w e) (λ t. omega (arith, (touches_meeting p o w e t).second_starts, (region_inside space p g l e m).0)))

  -- a byte that an effect touches lies in the effect's own capability, past its header
  header_not : (i j e : ℕ) → i < capability_count p → start_of p i ≤ j → j < start_of p i + header_size → e < effect_count p → touches p j 1 e ≡ true → ⊥
  unfolding region_start
  header_not i j e h a b m t =
      let q = touches_meeting p j 1 e t in
      let c = (effect_at p e).capability in
      let z : c ≡ i = g.separate c i j (g.belongs e m) h (extent_in p j c (omega (arith, q.second_starts)) (omega (arith, q.first_starts, g.ends e m))) (extent_in p j i a (omega arith)) in
      omega (arith, q.second_starts, g.starts e m, ap (start_of p) z)

  pub header_untouched : (i j : ℕ) (write : Bool) → i < capability_count p → start_of p i ≤ j → j < start_of p i + header_size → touch_of p j 1 write ≡ Ok None
  header_untouched i j write h a b = touch_untouched p j 1 write (λ e m. never (touches p j 1 e) (header_not i j e h a b m))
