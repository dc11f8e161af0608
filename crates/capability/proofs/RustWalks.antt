-- The Rust's walk gives what the owners give: where nothing is touched it finds nothing; an effect that holds the access is the only one touched, so it finds that one and crosses no boundary; one that is touched and may not answer leaves an error, which stays.
use Prim.Native.Nat.{ℕ, zero, suc, ◌+◌, ◌<◌, ◌≤◌}
use mathlib.Core.Bool.{Bool, true, false, ◌&&◌, and-false}
use mathlib.Core.Logic.{◌⊎◌, inl, inr, ⊎_elim}
use mathlib.Core.Path.{◌≡◌, refl, sym, ap, ◌∙◌}
use native.Mathlib.Nat.{eq-or-lt_of_le}
use native.Mathlib.Omega.{arith}
use borrow.Author.Tests.{lt-ltb, le-ltb, le-leb, ltb-true, leb-true, eqb-true, eq-eqb}
use lib.Dec.{ltb, leb, eqb}
use Rattle.word.proofs.Tests.{true_or_false, and_left, and_right, same_test, both, never}
use Rattle.word.proofs.Searches.{First, first_or_none}
use Rattle.capability.specs.Owner.{capability_count, effect_count, effect_at, start_of, region_from, region_to, touches, holds}
use Rattle.capability.specs.Touch.{allows, touch_of, answers}
use Rattle.capability.specs.Laid.{finish_of}
use Rattle.capability.specs.LaidApart.{LaidApart}
use Rattle.capability.specs.RustWalk.{Found, none, one, bad, or_next, reached, passes, step, walk_effects, crosses, bounded, walk_capabilities, rust_touch}
use Rattle.capability.specs.declared.placed.Placed.{Placed}
use Rattle.capability.proofs.Regions.{at_touched, touches_meeting, meeting_touches, held_at, holds_is, holds_inside}
use Rattle.capability.proofs.Touches.{touch_untouched}
use Rattle.capability.proofs.Refusals.{one_effect, inside_capability, answered, refused}

module _ (p : Placed) (o w : ℕ) (write : Bool) (g : LaidApart p) (pos : 0 < w) where
  abbrev many : ℕ
  many = effect_count p

  reached_is : (c i : ℕ) → i < many → reached p o w c i ≡ eqb (effect_at p i).capability c && touches p o w i
  reached_is c i h =
      ap (λ (t : Bool). eqb (effect_at p i).capability c && t)
      (same_test (ltb o (region_to p i) && ltb (region_from p i) (o + w)) (touches p o w i)
      (λ t. meeting_touches p o w i (record { first_full = pos; second_full = g.filled i h; first_starts = ltb-true o (region_to p i) (and_left (ltb o (region_to p i)) (ltb (region_from p i) (o + w)) t); second_starts = ltb-true (region_from p i) (o + w) (and_right (ltb o (region_to p i)) (ltb (region_from p i) (o + w)) t) }))
      (λ t. let m = touches_meeting p o w i t in rw (lt-ltb o (region_to p i) m.first_starts, lt-ltb (region_from p i) (o + w) m.second_starts)))

  passes_is : (i : ℕ) → passes p o w write i ≡ answers p o w write i
  passes_is i =
      ap (λ (t : Bool). t && allows write (effect_at p i).access)
      (same_test (leb (region_from p i) o && leb (o + w) (region_to p i)) (holds p o w i)
      (λ t. holds_is p o w i (leb-true (region_from p i) o (and_left (leb (region_from p i) o) (leb (o + w) (region_to p i)) t)) (leb-true (o + w) (region_to p i) (and_right (leb (region_from p i) o) (leb (o + w) (region_to p i)) t)))
      (λ t. let m = holds_inside p o w i pos t in rw (le-leb (region_from p i) o m.from_start, le-leb (o + w) (region_to p i) m.to_end)))

  -- nothing is touched
  module _ (n : (k : ℕ) → k < many → touches p o w k ≡ false) where
    effects_none : (c m : ℕ) → m ≤ many → walk_effects p o w write c m ≡ none
    unfolding walk_effects
    effects_none c zero h = refl
    effects_none c (suc m) h = rw (reached_is c m (omega arith), n m (omega arith), and-false (eqb (effect_at p m).capability c)) (effects_none c m (omega arith))

    capabilities_none : (c : ℕ) → walk_capabilities p o w write c ≡ none
    unfolding walk_capabilities
    capabilities_none zero = refl
    capabilities_none (suc c) = rw (capabilities_none c, effects_none c many (omega arith))

  abbrev cap_of : ℕ → ℕ
  cap_of i = (effect_at p i).capability

  -- an effect that is reached is touched, and is the capability's own
  met : (c k : ℕ) → k < many → reached p o w c k ≡ true → (cap_of k ≡ c) × (touches p o w k ≡ true)
  met c k h t =
      let e = sym (reached_is c k h) ∙ t in
      (eqb-true (cap_of k) c (and_left (eqb (cap_of k) c) (touches p o w k) e), and_right (eqb (cap_of k) c) (touches p o w k) e)

  reached_own : (k : ℕ) → k < many → touches p o w k ≡ true → reached p o w (cap_of k) k ≡ true
  reached_own k h t = reached_is (cap_of k) k h ∙ rw (eq-eqb (cap_of k) (cap_of k) refl, t)

  -- the effect at i holds the access and allows it
  module _ (i : ℕ) (h : i < many) (a : answers p o w write i ≡ true) where
    held : holds p o w i ≡ true
    held = and_left (holds p o w i) (allows write (effect_at p i).access) a

    here : touches p o w i ≡ true
    here = at_touched p o w i 0 pos (held_at p o w i held 0 pos)

    others : (c k : ℕ) → k < many → (cap_of i ≡ c → k ≡ i → ⊥) → reached p o w c k ≡ false
    others c k l n =
        never (reached p o w c k) (λ t.
        let m = met c k l t in
        let q : k ≡ i = one_effect p g o w i k h l held m.1 in
        n (rw (← q) m.0) q)

    effects_before : (c m : ℕ) → m ≤ many → (cap_of i ≡ c → m ≤ i) → walk_effects p o w write c m ≡ none
    unfolding walk_effects
    effects_before c zero l n = refl
    effects_before c (suc m) l n = rw (others c m (omega arith) (λ e q. omega (arith, n e))) (effects_before c m (omega arith) (λ e. omega (arith, n e)))

    effects_one : (m : ℕ) → m ≤ many → i < m → walk_effects p o w write (cap_of i) m ≡ one i
    unfolding walk_effects
    effects_one zero l b = absurd (omega arith)
    effects_one (suc m) l b =
        ⊎_elim (λ (q : i ≡ m). rw (← q, effects_before (cap_of i) i (omega arith) (λ e. omega arith), reached_own i h here, passes_is i, a))
        (λ (b : i < m). rw (others (cap_of i) m (omega arith) (λ e q. omega arith)) (effects_one m (omega arith) b))
        (eq-or-lt_of_le {n = i} {m = m} (omega arith))

    within : crosses p o w (cap_of i) ≡ false
    within =
        let r = inside_capability p g o w i h pos held in
        rw (le-ltb o (start_of p (cap_of i)) r.0, le-ltb (finish_of p (cap_of i)) (o + w) (omega (arith, r.1)), and-false (ltb (start_of p (cap_of i)) (o + w))) (and-false (ltb o (finish_of p (cap_of i))))

    capabilities_before : (m : ℕ) → m ≤ cap_of i → walk_capabilities p o w write m ≡ none
    unfolding walk_capabilities
    capabilities_before zero l = refl
    capabilities_before (suc m) l = rw (capabilities_before m (omega arith), effects_before m many (omega arith) (λ e. absurd (omega arith)))

    capabilities_one : (m : ℕ) → cap_of i < m → walk_capabilities p o w write m ≡ one i
    unfolding walk_capabilities
    capabilities_one zero l = absurd (omega arith)
    capabilities_one (suc m) l =
        ⊎_elim (λ (q : cap_of i ≡ m). rw (← q, capabilities_before (cap_of i) (omega arith), effects_one many (omega arith) h, within))
        (λ (b : cap_of i < m). rw (capabilities_one m b))
        (eq-or-lt_of_le {n = cap_of i} {m = m} (omega arith))

  -- the effect at i is touched and may not answer
  module _ (i : ℕ) (h : i < many) (t : touches p o w i ≡ true) (a : answers p o w write i ≡ false) where
    no_answer : (k : ℕ) → k < many → touches p o w k ≡ true → passes p o w write k ≡ false
    no_answer k l u =
        passes_is k ∙ never (answers p o w write k) (λ b.
        let q : i ≡ k = one_effect p g o w k i l h (and_left (holds p o w k) (allows write (effect_at p k).access) b) t in
        both b (rw q at a))

    step_bad : (c k : ℕ) → k < many → step p o w write c k bad ≡ bad
    step_bad c k l = ⊎_elim (λ (e : reached p o w c k ≡ true). rw (e, no_answer k l (met c k l e).1)) (λ (e : reached p o w c k ≡ false). rw e) (true_or_false (reached p o w c k))

    step_stuck : (c k : ℕ) (f : Found) → k < many → (f ≡ none) ⊎ (f ≡ bad) → (step p o w write c k f ≡ none) ⊎ (step p o w write c k f ≡ bad)
    step_stuck c k f l e =
        ⊎_elim (λ (m : reached p o w c k ≡ true). inr (rw (m, no_answer k l (met c k l m).1))) (λ (m : reached p o w c k ≡ false). rw m e) (true_or_false (reached p o w c k))

    effects_stuck : (c m : ℕ) → m ≤ many → (walk_effects p o w write c m ≡ none) ⊎ (walk_effects p o w write c m ≡ bad)
    unfolding walk_effects
    effects_stuck c zero l = inl refl
    effects_stuck c (suc m) l = step_stuck c m (walk_effects p o w write c m) (omega arith) (effects_stuck c m (omega arith))

    effects_bad : (m : ℕ) → m ≤ many → i < m → walk_effects p o w write (cap_of i) m ≡ bad
    unfolding walk_effects
    effects_bad zero l b = absurd (omega arith)
    effects_bad (suc m) l b =
        ⊎_elim (λ (q : i ≡ m). rw (← q, reached_own i h t, no_answer i h t))
        (λ (b : i < m). rw (effects_bad m (omega arith) b) (step_bad (cap_of i) m (omega arith)))
        (eq-or-lt_of_le {n = i} {m = m} (omega arith))

    stuck_bounded : (c : ℕ) (f : Found) → (f ≡ none) ⊎ (f ≡ bad) → (bounded p o w c f ≡ none) ⊎ (bounded p o w c f ≡ bad)
    stuck_bounded c f e = ⊎_elim (λ q. inl (rw q)) (λ q. inr (rw q)) e

    stuck_next : (f r : Found) → (f ≡ none) ⊎ (f ≡ bad) → (r ≡ none) ⊎ (r ≡ bad) → (or_next f r ≡ none) ⊎ (or_next f r ≡ bad)
    stuck_next f r e d = ⊎_elim (λ (q : f ≡ none). rw q d) (λ (q : f ≡ bad). inr (rw q)) e

    capabilities_stuck : (m : ℕ) → (walk_capabilities p o w write m ≡ none) ⊎ (walk_capabilities p o w write m ≡ bad)
    unfolding walk_capabilities
    capabilities_stuck zero = inl refl
    capabilities_stuck (suc m) =
        stuck_next (walk_capabilities p o w write m) (bounded p o w m (walk_effects p o w write m many)) (capabilities_stuck m) (stuck_bounded m (walk_effects p o w write m many) (effects_stuck m many (omega arith)))

    capabilities_bad : (m : ℕ) → cap_of i < m → walk_capabilities p o w write m ≡ bad
    unfolding walk_capabilities
    capabilities_bad zero l = absurd (omega arith)
    capabilities_bad (suc m) l =
        ⊎_elim
        (λ (q : cap_of i ≡ m). rw (← q, effects_bad many (omega arith) h) (⊎_elim (λ (e : walk_capabilities p o w write (cap_of i) ≡ none). rw e) (λ (e : walk_capabilities p o w write (cap_of i) ≡ bad). rw e) (capabilities_stuck (cap_of i))))
        (λ (b : cap_of i < m). rw (capabilities_bad m b))
        (eq-or-lt_of_le {n = cap_of i} {m = m} (omega arith))

  agrees_at : (i : ℕ) → First (touches p o w) many i → rust_touch p o w write ≡ touch_of p o w write
  agrees_at i f =
      let l = g.belongs i f.below in
      ⊎_elim
      (λ (a : answers p o w write i ≡ true). rw (capabilities_one i f.below a (capability_count p) l) (sym (answered p g o w write i f.below pos a)))
      (λ (a : answers p o w write i ≡ false). rw (capabilities_bad i f.below f.here a (capability_count p) l) (sym (refused p g o w write i f.below f.here a)))
      (true_or_false (answers p o w write i))

  -- the two walks agree
  pub walk_agrees : rust_touch p o w write ≡ touch_of p o w write
  walk_agrees =
      ⊎_elim (λ r. agrees_at r.0 r.1) (λ n. rw (capabilities_none n (capability_count p)) (sym (touch_untouched p o w write n))) (first_or_none (touches p o w) many)
