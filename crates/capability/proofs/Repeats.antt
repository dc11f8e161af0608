-- Refusal 12 at a capability: one of its effects has the id of an effect declared before it.
use Prim.Native.Nat.{ℕ}
use mathlib.Core.Bool.{true}
use mathlib.Core.Path.{◌≡◌}
use borrow.Author.Tests.{eq-eqb, eqb-true}
use lib.Dec.{eqb}
use Rattle.word.proofs.Tests.{and_left, and_right}
use Rattle.word.proofs.Searches.{any_found, any_has_lem}
use Rattle.capability.specs.Declaration.{effect_count_of, declared_effect}
use Rattle.capability.specs.Repeat.{id_among, repeats, repeats_at, Repeat}
use Rattle.capability.specs.declared.declared.Capabilities.{Capabilities}

pub repeat_has : (d : Capabilities) (k : ℕ) → repeats_at d k ≡ true → Repeat d k
unfolding repeats_at
repeat_has d k e =
    let r = any_has_lem (repeats d.effects k) (effect_count_of d) e in
    let f = declared_effect d r.0 in
    let s = any_has_lem (λ i. eqb (declared_effect d i).id f.id) r.0 (and_right (eqb f.capability k) (id_among d.effects f.id r.0) r.2) in
    record { index = r.0; below = r.1; mine = eqb-true f.capability k (and_left (eqb f.capability k) (id_among d.effects f.id r.0) r.2); earlier = s.0; before = s.1; same = eqb-true (declared_effect d s.0).id f.id s.2 }

pub repeat_found : (d : Capabilities) (k : ℕ) → Repeat d k → repeats_at d k ≡ true
unfolding repeats_at
repeat_found d k r =
    let f = declared_effect d r.index in
    any_found (repeats d.effects k) r.index (effect_count_of d) r.below
    (rw (eq-eqb f.capability k r.mine) (any_found (λ i. eqb (declared_effect d i).id f.id) r.earlier r.index r.before (eq-eqb (declared_effect d r.earlier).id f.id r.same)))
