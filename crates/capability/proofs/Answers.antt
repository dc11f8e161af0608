-- What an effect's answer says of the access: the effect that decides holds it, so it lies between the region's ends.
use Prim.Native.Nat.{ℕ, ◌<◌}
use mathlib.Core.Bool.{Bool, true, false, cond}
use mathlib.Core.Logic.{⊎_elim}
use mathlib.Core.Path.{◌≡◌, refl, sym, ◌∙◌}
use native.Mathlib.Omega.{arith}
use Rattle.std.proofs.Common.{Some, None, Ok, Err}
use Rattle.word.proofs.Tests.{true_or_false, and_left, and_right}
use Rattle.word.proofs.Searches.{First, first_or_none}
use Rattle.refusal.specs.declared.refusal.Refusal.TheVariants as refusal
use Rattle.capability.specs.Owner.{effect_count, effect_at, region_start, touches, holds}
use Rattle.capability.specs.Touch.{allows, effect_hit, effect_answer, touch_of, answers, decision}
use Rattle.capability.specs.Answer.{Answer}
use Rattle.capability.specs.declared.placed.Placed.{Placed}
use Rattle.capability.specs.declared.effect_access.EffectHit.{EffectHit}
use Rattle.capability.proofs.Regions.{touches_meeting, holds_inside}
use Rattle.capability.proofs.Touches.{touch_untouched, touch_decision}

module _ (p : Placed) (o w : ℕ) (write : Bool) (h : EffectHit) where
  answer_of_lem : (i : ℕ) → i < effect_count p → 0 < w → answers p o w write i ≡ true → effect_answer p o i ≡ Ok (Some h) → Answer p o w write h
  unfolding region_start
  answer_of_lem i b z a e =
      let r : effect_hit p o i ≡ h = cc in
      let s = holds_inside p o w i z (and_left (holds p o w i) (allows write (effect_at p i).access) a) in
      rw (← r) (record { index = i; below = b; is_region = refl; is_id = refl; allowed = and_right (holds p o w i) (allows write (effect_at p i).access) a; from_capability = omega (arith, s.from_start); from_region = omega (arith, s.from_start); fits = omega (arith, s.from_start, s.to_end) })

  decided_answer : (i : ℕ) → First (touches p o w) (effect_count p) i → touch_of p o w write ≡ Ok (Some h) → Answer p o w write h
  unfolding decision
  decided_answer i f e =
      let d : cond (answers p o w write i) (effect_answer p o i) (Err refusal.BadTouch) ≡ Ok (Some h) = sym (touch_decision p o w i f write) ∙ e in
      ⊎_elim
      (λ (a : answers p o w write i ≡ true). answer_of_lem i f.below (touches_meeting p o w i f.here).first_full a (rw a at d))
      (λ (a : answers p o w write i ≡ false). let b : Err refusal.BadTouch ≡ Ok (Some h) = rw a at d in let z : ◌≡◌ {A = ℕ} 0 1 = cc in absurd (omega arith))
      (true_or_false (answers p o w write i))

  pub touch_answer : touch_of p o w write ≡ Ok (Some h) → Answer p o w write h
  touch_answer e =
      ⊎_elim (λ r. decided_answer r.0 r.1 e)
      (λ n. let b : Ok None ≡ Ok (Some h) = sym (touch_untouched p o w write n) ∙ e in let z : ◌≡◌ {A = ℕ} 0 1 = cc in absurd (omega arith))
      (first_or_none (touches p o w) (effect_count p))
