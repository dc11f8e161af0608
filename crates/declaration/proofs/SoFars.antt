-- What is so of the declaration so far: its latest function is good, and the finished ones are good, in order, and of other devices.
use Prim.Native.Nat.{ℕ, ◌+◌, ◌-◌, ◌<◌, ◌≤◌}
use mathlib.Core.Bool.{true, false}
use mathlib.Core.Logic.{⊎_elim}
use mathlib.Core.Path.{◌≡◌, ap, ◌∙◌}
use native.Mathlib.Omega.{arith}
use borrow.Author.Tests.{eq-eqb, ne_eqb}
use lib.ListN.{length, set, length-replicate}
use Rattle.std.specs.Prelude.{Some}
use Rattle.word.proofs.Tests.{both, same_or_not}
use Rattle.address.specs.Limits.{function_room}
use Rattle.bar.specs.declared.range.Aperture.{Aperture}
use Rattle.declaration.specs.Blank.{no_identity, no_mask, nothing_so_far}
use Rattle.declaration.specs.Finished.{finished_after}
use Rattle.declaration.specs.Finished.{function_at, none_finished, finished_with, finished_so_far}
use Rattle.declaration.specs.Good.{GoodAperture, GoodFunction, GoodFunctions}
use Rattle.declaration.specs.Standing.{device_used}
use Rattle.declaration.specs.declared.finished.Finished.{Finished}
use Rattle.declaration.specs.declared.so_far.SoFar.{SoFar}
use Rattle.declaration.proofs.Devices.{used_same, used_kept}
use Rattle.declaration.proofs.Functions.{empty_latest, no_function_good}
use Rattle.declaration.proofs.Masked.{Latest}
use Rattle.declaration.proofs.Inserted.{none_finished_good, inserted_good, inserted_count, inserted_each}

-- what is so of the declaration so far after every field
pub record Sane (s : SoFar) : Type 0 where
  pub aperture : (a : Aperture) → s.aperture ≡ Some a → GoodAperture a
  pub room : length s.devices ≡ function_room
  pub few : s.count ≤ function_room
  pub function : GoodFunction s.function
  pub mine : 0 < s.count → device_used s s.function.device ≡ true
  pub masked : Latest s.mask s.function.contents.masks s.function.capabilities

-- and of the finished functions: all but the latest, of other devices
pub record Apart (s : SoFar) (f : Finished) : Type 0 where
  pub good : GoodFunctions f.functions f.count
  pub counted : f.count ≡ s.count - 1
  pub among : (k : ℕ) → k < f.count → device_used s (function_at f k).device ≡ true
  pub fresh : (k : ℕ) → k < f.count → (function_at f k).device ≡ s.function.device → ⊥

pub record Kept (s : SoFar) (f : Finished) (t : SoFar) : Type 0 where
  pub sane : Sane t
  pub apart : Apart t (finished_after s t f)

pub nothing_sane : Sane nothing_so_far
unfolding nothing_so_far
nothing_sane = record { aperture = λ a e. absurd (cc); room = length-replicate {A = ℕ} function_room 0; few = omega arith; function = no_function_good; mine = λ h. absurd (omega arith); masked = empty_latest no_mask 0 no_identity }

pub nothing_apart : Apart nothing_so_far none_finished
unfolding nothing_so_far none_finished
nothing_apart = record { good = none_finished_good; counted = omega arith; among = λ k h. absurd (omega arith); fresh = λ k h. absurd (omega arith) }

-- all functions of a declaration, the latest too
module _ (s : SoFar) (f : Finished) (a : Sane s) (b : Apart s f) where
  none_yet : s.count ≡ 0 → finished_so_far f s ≡ f
  unfolding finished_so_far
  none_yet z = rw z

  latest_too : (s.count ≡ 0 → ⊥) → finished_so_far f s ≡ finished_with f s.function
  unfolding finished_so_far
  latest_too z = rw (ne_eqb s.count 0 z)

  pub all_good : GoodFunctions (finished_so_far f s).functions (finished_so_far f s).count
  all_good =
      ⊎_elim (λ (z : s.count ≡ 0). rw (none_yet z) b.good)
      (λ (z : s.count ≡ 0 → ⊥). rw (latest_too z) (inserted_good f s.function b.good (omega (arith, b.counted, a.few)) b.fresh a.function))
      (same_or_not s.count 0)

  pub all_counted : (finished_so_far f s).count ≡ s.count
  all_counted =
      ⊎_elim (λ (z : s.count ≡ 0). rw (none_yet z) (omega (arith, b.counted)))
      (λ (z : s.count ≡ 0 → ⊥). rw (latest_too z) (inserted_count f s.function b.good (omega (arith, b.counted, a.few)) ∙ omega (arith, b.counted)))
      (same_or_not s.count 0)

  pub all_among : (k : ℕ) → k < s.count → device_used s (function_at (finished_so_far f s) k).device ≡ true
  all_among k h =
      let z : s.count ≡ 0 → ⊥ = λ q. omega arith in
      rw (latest_too z)
      (inserted_each f s.function b.good (omega (arith, b.counted, a.few)) (λ x. device_used s x.device ≡ true) (a.mine (omega arith)) b.among k (omega (arith, b.counted)))

  -- a new function finishes the one before it, and its device is none of theirs
  pub new_apart : (t : SoFar) (d : ℕ) → t.devices ≡ set s.devices s.count d → t.count ≡ s.count + 1 → t.function.device ≡ d → device_used s d ≡ false → Apart t (finished_after s t f)
  new_apart t d e c q unused =
      rw (ne_eqb t.count s.count (λ z. omega arith))
      (record {
        good = all_good;
        counted = all_counted ∙ omega arith;
        among = λ k h. used_kept s t d e c (function_at (finished_so_far f s) k).device (all_among k (omega (arith, all_counted)));
        fresh = λ k h z. both (all_among k (omega (arith, all_counted))) (ap (device_used s) (z ∙ q) ∙ unused);
      })

-- a field that begins no function leaves the finished ones as they are
pub same_apart : (s t : SoFar) (f : Finished) → t.devices ≡ s.devices → t.count ≡ s.count → t.function.device ≡ s.function.device → Apart s f → Apart t (finished_after s t f)
same_apart s t f d c e b =
    rw (eq-eqb t.count s.count c)
    (record { good = b.good; counted = b.counted ∙ rw c; among = λ k h. used_same s t (function_at f k).device d c (b.among k h); fresh = λ k h q. b.fresh k h (q ∙ e) })
