-- The walk's answer is the owners' answer, on every record: the first effect that an access touches decides.
use Prim.Native.Nat.{ℕ, ◌+◌, ◌<◌}
use mathlib.Core.Bool.{Bool, true, false, cond, and-false}
use mathlib.Core.Logic.{⊎_elim}
use mathlib.Core.Path.{◌≡◌, refl, sym, ap, ◌∙◌}
use native.Mathlib.Omega.{arith}
use borrow.Author.Tests.{eqb-true, eq-eqb}
use Rattle.std.proofs.Common.{is_none, Option, Some, None, Ok, Err}
use Rattle.word.specs.Search.{all_below}
use Rattle.word.proofs.Tests.{true_or_false, both, never}
use Rattle.word.proofs.Searches.{First, all_each, each_all, first_or_none}
use Rattle.refusal.specs.declared.refusal.Refusal.{Refusal}
use Rattle.refusal.specs.declared.refusal.Refusal.TheVariants as refusal
use Rattle.word.proofs.Listed.{some_first, none_first}
use Rattle.capability.specs.Owner.{effect_count, effect_at, in_region, owner_of, touches, holds, first_touched}
use Rattle.capability.specs.Touch.{Touch, allows, answers, is_effect, effect_answer, by_owner, touch_of, decision}
use Rattle.capability.specs.declared.placed.Placed.{Placed}
use Rattle.capability.proofs.Regions.{touched_at, untouched_at, held_at, at_held}
use Rattle.capability.proofs.Owners.{owner_is, owner_first, owner_none, owner_never}

nobody_is : (x : Option ℕ) → is_none x ≡ true → x ≡ None
nobody_is None e = refl
nobody_is (Some k) e = let z : ◌≡◌ {A = ℕ} 0 1 = cc in absurd (omega arith)

effect_is : (i : ℕ) (x : Option ℕ) → is_effect i x ≡ true → x ≡ Some i
effect_is i None e = let z : ◌≡◌ {A = ℕ} 0 1 = cc in absurd (omega arith)
effect_is i (Some k) e = ap Some (eqb-true k i e)

module _ (p : Placed) (o w : ℕ) where
  abbrev many : ℕ
  many = effect_count p

  -- nothing touched: nobody owns a byte
  pub touch_untouched : (write : Bool) → ((k : ℕ) → k < many → touches p o w k ≡ false) → touch_of p o w write ≡ Ok None
  unfolding touch_of
  touch_untouched write h =
      rw (each_all (λ k. is_none (owner_of p (o + k))) w (λ k l. rw (owner_none p (o + k) (λ i m. untouched_at p o w i (h i m) k l))))

  module _ (i : ℕ) (f : First (touches p o w) many i) where
    -- some byte has an owner
    some_owned : all_below (λ k. is_none (owner_of p (o + k))) w ≡ false
    some_owned =
        never (all_below (λ k. is_none (owner_of p (o + k))) w) (λ t.
        let r = touched_at p o w i f.here in
        let n = nobody_is (owner_of p (o + r.0)) (all_each (λ k. is_none (owner_of p (o + k))) w t r.0 r.1) in
        both r.2 (owner_never p (o + r.0) n i f.below))

    -- the effect that is touched first owns every byte that it covers
    owns : (k : ℕ) → k < w → in_region p (o + k) i ≡ true → owner_of p (o + k) ≡ Some i
    owns k h e = owner_is p (o + k) i (record { below = f.below; before = λ m l. untouched_at p o w m (f.before m l) k h; here = e })

    -- an effect that owns every byte is that one
    all_owned : (m : ℕ) → all_below (λ k. is_effect m (owner_of p (o + k))) w ≡ true → holds p o w i ≡ true
    all_owned m t =
        let r = touched_at p o w i f.here in
        let e : Some i ≡ Some m = sym (owns r.0 r.1 r.2) ∙ effect_is m (owner_of p (o + r.0)) (all_each (λ k. is_effect m (owner_of p (o + k))) w t r.0 r.1) in
        let q : m ≡ i = cc in
        at_held p o w i (λ k h. (owner_first p (o + k) i (effect_is i (owner_of p (o + k)) (rw q at (all_each (λ k. is_effect m (owner_of p (o + k))) w t k h)))).here)

    refused_by_lem : (write : Bool) (x : Option ℕ) → holds p o w i ≡ false → by_owner p o w write x ≡ Err refusal.BadTouch
    refused_by_lem write None h = refl
    refused_by_lem write (Some m) h =
        rw (never (all_below (λ k. is_effect m (owner_of p (o + k))) w) (λ t. both (all_owned m t) h))

    first_owner : holds p o w i ≡ true → owner_of p o ≡ Some i
    first_owner e =
        let r = touched_at p o w i f.here in
        let z : o + 0 ≡ o = omega arith in
        rw z at (owns 0 (omega (arith, r.1)) (held_at p o w i e 0 (omega (arith, r.1))))

    pub touch_decision : (write : Bool) → touch_of p o w write ≡ decision p o w write i
    unfolding touch_of decision
    touch_decision write =
        rw some_owned
        (⊎_elim
        (λ (e : holds p o w i ≡ true). rw (e, first_owner e, each_all (λ k. is_effect i (owner_of p (o + k))) w (λ k h. rw (owns k h (held_at p o w i e k h)) (eq-eqb i i refl))))
        (λ (e : holds p o w i ≡ false). rw e (refused_by_lem write (owner_of p o) e))
        (true_or_false (holds p o w i)))

  -- the answer of the walk
  pub touch_effect : (i : ℕ) (write : Bool) → first_touched p o w ≡ Some i → touch_of p o w write ≡ decision p o w write i
  unfolding first_touched
  touch_effect i write e = touch_decision i (some_first (touches p o w) many i e) write

  pub touch_nobody : (write : Bool) → first_touched p o w ≡ None → touch_of p o w write ≡ Ok None
  unfolding first_touched
  touch_nobody write e = touch_untouched write (none_first (touches p o w) many e)

  -- the only refusal is 19
  decided_refusal : (t : Bool) (h : Touch) (r : Refusal) → cond t h (Err refusal.BadTouch) ≡ Err r → (t ≡ true → h ≡ Err r → ⊥) → r ≡ refusal.BadTouch
  decided_refusal true h r e n = absurd (n refl e)
  decided_refusal false h r e n = cc

  pub touch_refusal : (write : Bool) (r : Refusal) → touch_of p o w write ≡ Err r → r ≡ refusal.BadTouch
  unfolding decision
  touch_refusal write r e =
      ⊎_elim
      (λ f. decided_refusal (answers p o w write f.0) (effect_answer p o f.0) r (sym (touch_decision f.0 f.1 write) ∙ e) (λ t q. let z : ◌≡◌ {A = ℕ} 0 1 = cc in omega arith))
      (λ n. let q : Ok None ≡ Err r = sym (touch_untouched write n) ∙ e in let z : ◌≡◌ {A = ℕ} 0 1 = cc in absurd (omega arith))
      (first_or_none (touches p o w) many)

  module _ (write : Bool) (i : ℕ) where
    pub decision_inside : holds p o w i ≡ true → allows write (effect_at p i).access ≡ true → decision p o w write i ≡ effect_answer p o i
    unfolding decision
    decision_inside h a = rw (h, a)

    pub decision_outside : holds p o w i ≡ false → decision p o w write i ≡ Err refusal.BadTouch
    unfolding decision
    decision_outside h = rw h

    pub decision_direction : allows write (effect_at p i).access ≡ false → decision p o w write i ≡ Err refusal.BadTouch
    unfolding decision
    decision_direction a = rw (a, and-false (holds p o w i))
