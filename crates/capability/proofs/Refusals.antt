-- Refusal 19 in the words of the table, where no two regions share a byte.
use Prim.Native.Nat.{ℕ, ◌+◌, ◌<◌, ◌≤◌}
use mathlib.Core.Bool.{Bool, true, false}
use mathlib.Core.Logic.{⊎_elim}
use mathlib.Core.Path.{◌≡◌, sym, ◌∙◌}
use native.Mathlib.Omega.{arith}
use Rattle.std.proofs.Common.{Some, Err}
use Rattle.word.proofs.Tests.{and_left, and_right, both, never}
use Rattle.word.proofs.Searches.{first_or_none}
use Rattle.refusal.specs.Number.{accepted, bad_touch}
use Rattle.refusal.specs.declared.refusal.Refusal.TheVariants as refusal
use Rattle.refusal.specs.Refusal.{answer_number}
use Rattle.capability.specs.Size.{header_size}
use Rattle.capability.specs.Owner.{effect_count, capability_at, effect_at, start_of, region_start, in_region, owner_of, touches, holds}
use Rattle.capability.specs.Touch.{allows, effect_answer, touch_of, answers, decision}
use Rattle.capability.specs.LaidApart.{LaidApart}
use Rattle.capability.specs.declared.placed.Placed.{Placed}
use Rattle.capability.proofs.Regions.{touched_at, at_touched, held_at, holds_inside}
use Rattle.capability.proofs.Owners.{owner_is}
use Rattle.capability.proofs.Touches.{touch_untouched, touch_decision, decision_inside}

module _ (p : Placed) (g : LaidApart p) where
  abbrev many : ℕ
  many = effect_count p

  -- the owner of a byte is the effect that covers it
  pub owner_covers : (i j : ℕ) → i < many → in_region p j i ≡ true → owner_of p j ≡ Some i
  owner_covers i j h e =
      owner_is p j i (record { below = h; before = λ k l. never (in_region p j k) (λ t. let q : k ≡ i = g.apart k i j (omega arith) h t e in omega arith); here = e })

  module _ (o w : ℕ) where
    -- an access inside one effect touches no other: the Rust's "covers multiple capability effects" cannot be reached
    pub one_effect : (i k : ℕ) → i < many → k < many → holds p o w i ≡ true → touches p o w k ≡ true → k ≡ i
    one_effect i k h l e t =
        let r = touched_at p o w k t in
        g.apart k i (o + r.0) l h r.2 (held_at p o w i e r.0 r.1)

    -- and lies in its capability: the Rust's "crosses a capability boundary" cannot be reached
    pub inside_capability : (i : ℕ) → i < many → 0 < w → holds p o w i ≡ true → (start_of p (effect_at p i).capability ≤ o) × (o + w ≤ start_of p (effect_at p i).capability + (header_size + (capability_at p (effect_at p i).capability).length))
    unfolding region_start
    inside_capability i h z e =
        let s = holds_inside p o w i z e in
        (omega (arith, s.from_start), omega (arith, s.to_end, g.ends i h))

    -- answered where the access is inside an effect that allows its direction
    pub answered : (write : Bool) (i : ℕ) → i < many → 0 < w → answers p o w write i ≡ true → touch_of p o w write ≡ effect_answer p o i
    answered write i h z e =
        let held = and_left (holds p o w i) (allows write (effect_at p i).access) e in
        let here = at_touched p o w i 0 z (held_at p o w i held 0 z) in
        touch_decision p o w i (record { below = h; before = λ k l. never (touches p o w k) (λ t. let q : k ≡ i = one_effect i k h (omega arith) held t in omega arith); here = here }) write ∙
        decision_inside p o w write i held (and_right (holds p o w i) (allows write (effect_at p i).access) e)

    -- refused where it touches one that may not answer it
    pub refused : (write : Bool) (i : ℕ) → i < many → touches p o w i ≡ true → answers p o w write i ≡ false → touch_of p o w write ≡ Err refusal.BadTouch
    unfolding decision
    refused write i h t e =
        ⊎_elim
        (λ r. touch_decision p o w r.0 r.1 write ∙
        (let no : answers p o w write r.0 ≡ false = never (answers p o w write r.0) (λ a.
        let q : i ≡ r.0 = one_effect r.0 i r.1.below h (and_left (holds p o w r.0) (allows write (effect_at p r.0).access) a) t in
        both a (rw q at e)) in rw no))
        (λ n. absurd (both t (n i h)))
        (first_or_none (touches p o w) many)

-- refusal 19 only where an effect is touched that may not answer
pub refused_only : (p : Placed) (o w : ℕ) (write : Bool) → answer_number (touch_of p o w write) ≡ bad_touch → (i : ℕ) × (i < effect_count p) × (touches p o w i ≡ true) × (answers p o w write i ≡ false)
unfolding decision
refused_only p o w write e =
    ⊎_elim
    (λ r. (
      r.0,
      r.1.below,
      r.1.here,
      never (answers p o w write r.0) (λ a.
          let f : answer_number (touch_of p o w write) ≡ accepted = rw (touch_decision p o w r.0 r.1 write, a) in
          let z : ◌≡◌ {A = ℕ} accepted bad_touch = sym f ∙ e in omega arith),
    ))
    (λ n. let f : answer_number (touch_of p o w write) ≡ accepted = rw (touch_untouched p o w write n) in let z : ◌≡◌ {A = ℕ} accepted bad_touch = sym f ∙ e in absurd (omega arith))
    (first_or_none (touches p o w) (effect_count p))
