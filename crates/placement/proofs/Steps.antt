-- One step of a pass, by what is asked; and a refusal stays.
use Prim.Native.Nat.{ℕ, zero, suc, ◌<◌, ◌≤◌}
use mathlib.Core.List.{List}
use mathlib.Core.Logic.{⊎_elim}
use mathlib.Core.Path.{◌≡◌, ap, subst}
use native.Mathlib.Omega.{arith}
use Rattle.std.specs.Prelude.{Some, None, Ok, Err}
use Rattle.word.proofs.Tests.{below_or_not}
use Rattle.bar.specs.Range.{range}
use Rattle.bar.specs.declared.range.Range.{Range}
use Rattle.bar.specs.declared.range.Aperture.{Aperture}
use Rattle.bar.specs.declared.memory_bar.MemoryBar.{MemoryBar}
use Rattle.bar.specs.declared.memory_bar.Request.TheVariants.{Auto, Fixed}
use Rattle.placement.specs.Place.{lowest_of}
use Rattle.placement.specs.Order.{size_at, request_at}
use Rattle.placement.specs.Passes.{onward, settled, fixed_verdict, fixed_step, fixed_after, next_of, fitted, auto_step, auto_after}
use Rattle.placement.specs.declared.placing.KeyRefusal.{KeyRefusal}

module _ (aperture : Aperture) (bars : List MemoryBar) where
  module _ (placed : List Range) where
    pub fixed_waits : (key : ℕ) → request_at bars key ≡ Auto → fixed_step aperture bars key placed ≡ Ok placed
    unfolding fixed_step
    fixed_waits key f = rw f

    pub fixed_asks : (key a : ℕ) → request_at bars key ≡ Fixed a → let r = range a (size_at bars key) in fixed_step aperture bars key placed ≡ settled (fixed_verdict aperture placed r) placed key r
    unfolding fixed_step
    fixed_asks key a f = rw f

    pub auto_none : next_of bars placed ≡ None → auto_step aperture bars placed ≡ Ok placed
    unfolding auto_step
    auto_none f = rw f

    pub auto_next : (key : ℕ) → next_of bars placed ≡ Some key → let size = size_at bars key in auto_step aperture bars placed ≡ fitted placed key size (lowest_of aperture size placed)
    unfolding auto_step
    auto_next key f = rw f

  module _ (e : KeyRefusal) where
    pub fixed_stays : (n m : ℕ) → n ≤ m → fixed_after aperture bars n ≡ Err e → fixed_after aperture bars m ≡ Err e
    unfolding fixed_after
    fixed_stays n zero h q = let z : n ≡ 0 = omega arith in subst (λ (k : ℕ). fixed_after aperture bars k ≡ Err e) z q
    fixed_stays n (suc m) h q =
        ⊎_elim (λ (l : m < n). let z : n ≡ suc m = omega arith in subst (λ (k : ℕ). fixed_after aperture bars k ≡ Err e) z q) (λ (l : n ≤ m). ap (onward (fixed_step aperture bars m)) (fixed_stays n m l q)) (below_or_not m n)

    pub auto_stays : (placed : List Range) (n m : ℕ) → n ≤ m → auto_after aperture bars placed n ≡ Err e → auto_after aperture bars placed m ≡ Err e
    unfolding auto_after
    auto_stays placed n zero h q = let z : n ≡ 0 = omega arith in subst (λ (k : ℕ). auto_after aperture bars placed k ≡ Err e) z q
    auto_stays placed n (suc m) h q =
        ⊎_elim (λ (l : m < n). let z : n ≡ suc m = omega arith in subst (λ (k : ℕ). auto_after aperture bars placed k ≡ Err e) z q) (λ (l : n ≤ m). ap (onward (auto_step aperture bars)) (auto_stays placed n m l q)) (below_or_not m n)
