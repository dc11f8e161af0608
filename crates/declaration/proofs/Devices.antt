-- Which devices are declared: a new function adds its own.
use Prim.Native.Nat.{ℕ, ◌+◌, ◌<◌}
use mathlib.Core.Bool.{true}
use mathlib.Core.Path.{◌≡◌, refl}
use native.Mathlib.Omega.{arith}
use borrow.Author.Tests.{eq-eqb}
use lib.Dec.{eqb}
use lib.ListN.{length, get_or, set}
use lib.Seq.{get_or-set_same, get_or-set_other}
use Rattle.word.proofs.Searches.{any_found, any_has_lem}
use Rattle.declaration.specs.Standing.{device_used}
use Rattle.declaration.specs.declared.so_far.SoFar.{SoFar}

pub used_same : (s t : SoFar) (x : ℕ) → t.devices ≡ s.devices → t.count ≡ s.count → device_used s x ≡ true → device_used t x ≡ true
unfolding device_used
used_same s t x d c h = rw (d, c) h

module _ (s t : SoFar) (d : ℕ) (devices : t.devices ≡ set s.devices s.count d) (count : t.count ≡ s.count + 1) where
  pub used_kept : (x : ℕ) → device_used s x ≡ true → device_used t x ≡ true
  unfolding device_used
  used_kept x h =
      let r = any_has_lem (λ k. eqb (get_or s.devices k 0) x) s.count h in
      rw (devices, count)
      (any_found (λ k. eqb (get_or (set s.devices s.count d) k 0) x) r.0 (s.count + 1) (omega (arith, r.1)) (rw (get_or-set_other s.devices s.count r.0 d 0 (λ q. omega (arith, r.1))) r.2))

  pub used_here : s.count < length s.devices → device_used t d ≡ true
  unfolding device_used
  used_here h =
      rw (devices, count)
      (any_found (λ k. eqb (get_or (set s.devices s.count d) k 0) d) s.count (s.count + 1) (omega arith) (rw (get_or-set_same s.devices s.count d 0 h) (eq-eqb d d refl)))
