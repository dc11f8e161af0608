-- What a config offset's constructor gives.
use Rattle.std.specs.Prelude.{Some, None}
use Prim.Native.Nat.{ℕ, ◌<◌, ◌≤◌}
use mathlib.Core.Bool.{Bool, true, false, cond}
use mathlib.Core.Path.{◌≡◌, refl}
use borrow.Author.Tests.{lt-ltb, le-ltb, ltb-true, ltb-false}
use native.Mathlib.Omega.{arith}
use lib.Dec.{ltb}
use Rattle.address.specs.Kinds.{offset, offset_of}
use Rattle.address.specs.declared.offset.ConfigOffset.{ConfigOffset}

pub offset_good : (space v : ℕ) → v < space → offset_of space v ≡ Some (offset v)
unfolding offset_of
offset_good space v h = rw (lt-ltb v space h)

pub offset_bad : (space v : ℕ) → space ≤ v → offset_of space v ≡ None
unfolding offset_of
offset_bad space v h = rw (le-ltb v space h)

by_good : (t : Bool) (v : ℕ) (o : ConfigOffset) → cond t (Some (offset v)) None ≡ Some o → (o ≡ offset v) × (t ≡ true)
by_good true v o e = (cc, refl)
by_good false v o e = let z : ◌≡◌ {A = ℕ} 0 1 = cc in absurd (omega arith)

by_bad : (t : Bool) (v : ℕ) → cond t (Some (offset v)) None ≡ None → t ≡ false
by_bad true v e = let z : ◌≡◌ {A = ℕ} 0 1 = cc in absurd (omega arith)
by_bad false v e = refl

-- the only offsets are those in the space
pub offset_is : (space v : ℕ) (o : ConfigOffset) → offset_of space v ≡ Some o → (o ≡ offset v) × (v < space)
unfolding offset_of
offset_is space v o e = let r = by_good (ltb v space) v o e in (r.0, ltb-true v space r.1)

pub offset_none : (space v : ℕ) → offset_of space v ≡ None → space ≤ v
unfolding offset_of
offset_none space v e = ltb-false v space (by_bad (ltb v space) v e)
