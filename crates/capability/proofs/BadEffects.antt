-- The two searches of refusal 11: an earlier effect that overlaps, and a byte that the guest may write.
use Prim.Native.Nat.{ℕ, ◌+◌, ◌-◌, ◌<◌}
use mathlib.Core.Bool.{true, not}
use mathlib.Core.List.{List}
use mathlib.Core.Path.{◌≡◌}
use native.Mathlib.Omega.{arith}
use borrow.Author.Tests.{eq-eqb, ne_eqb, eqb-true, eqb-false, not-true}
use lib.Dec.{eqb}
use lib.ListN.{get_or}
use Rattle.word.specs.Interval.{overlap}
use Rattle.word.proofs.Tests.{and_left, and_right}
use Rattle.word.proofs.Searches.{any_found, any_has_lem}
use Rattle.word.proofs.Intervals.{covers_in, covers_within, overlap_common, common_overlap}
use Rattle.capability.specs.Effect.{no_effect}
use Rattle.capability.specs.BadEffect.{clashes, overlaps_earlier, mask_at, covers_writable}
use Rattle.capability.specs.Fault.{Earlier, Writable}
use Rattle.capability.specs.declared.effect.Effect.{Effect}

-- an earlier effect of the same capability has a byte of the region, and the other way
pub earlier_has : (effects : List Effect) (n k o w : ℕ) → overlaps_earlier effects n k o w ≡ true → Earlier effects n k o w
unfolding overlaps_earlier
earlier_has effects n k o w e =
    let r = any_has_lem (λ i. clashes (get_or effects i no_effect) k o w) n e in
    let f = get_or effects r.0 no_effect in
    let b = overlap_common o w f.offset f.length (and_right (eqb f.capability k) (overlap o w f.offset f.length) r.2) in
    record { index = r.0; below = r.1; there = eqb-true f.capability k (and_left (eqb f.capability k) (overlap o w f.offset f.length) r.2); byte = b.0; mine = b.1; its = b.2 }

pub earlier_found : (effects : List Effect) (n k o w : ℕ) → Earlier effects n k o w → overlaps_earlier effects n k o w ≡ true
unfolding overlaps_earlier
earlier_found effects n k o w f =
    let e = get_or effects f.index no_effect in
    any_found (λ i. clashes (get_or effects i no_effect) k o w) f.index n f.below
    (rw (eq-eqb e.capability k f.there, common_overlap o w e.offset e.length f.byte f.mine f.its))

-- a byte of the region that the guest may write, likewise
pub writable_has : (mask : List ℕ) (o w : ℕ) → covers_writable mask o w ≡ true → Writable mask o w
unfolding covers_writable
writable_has mask o w e =
    let r = any_has_lem (λ i. not (eqb (mask_at mask (o + i)) 0)) w e in
    record { byte = o + r.0; mine = covers_in o w (o + r.0) (omega arith) (omega (arith, r.1)); bits = eqb-false (mask_at mask (o + r.0)) 0 (not-true (eqb (mask_at mask (o + r.0)) 0) r.2) }

pub writable_here : (mask : List ℕ) (o w i : ℕ) → i < w → (mask_at mask (o + i) ≡ 0 → ⊥) → covers_writable mask o w ≡ true
unfolding covers_writable
writable_here mask o w i h e = any_found (λ i. not (eqb (mask_at mask (o + i)) 0)) i w h (rw (ne_eqb (mask_at mask (o + i)) 0 e))

pub writable_found : (mask : List ℕ) (o w : ℕ) → Writable mask o w → covers_writable mask o w ≡ true
writable_found mask o w f =
    let r = covers_within o w f.byte f.mine in
    let q : o + (f.byte - o) ≡ f.byte = omega (arith, r.from) in
    writable_here mask o w (f.byte - o) (omega (arith, r.from, r.to)) (rw q f.bits)
