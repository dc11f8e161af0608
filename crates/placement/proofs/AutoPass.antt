-- The second pass: what is done stays ahead of all that waits, so the next one comes right after what is done. Each turn takes one of those that wait.
use Prim.Native.Nat.{ℕ, zero, suc, ◌+◌, ◌<◌, ◌≤◌}
use mathlib.Core.Bool.{Bool, true, false, not, ◌||◌}
use mathlib.Core.List.{List}
use mathlib.Core.Logic.{◌⊎◌, inl, inr, ⊎_elim}
use mathlib.Core.Path.{◌≡◌, sym, ap, ◌∙◌}
use native.Mathlib.Omega.{arith}
use borrow.Author.Tests.{lt-ltb, ltb-false}
use lib.Dec.{ltb}
use lib.ListN.{get_or, set}
use lib.Seq.{get_or-set_same, get_or-set_other}
use Rattle.word.proofs.Tests.{true_or_false, same_or_not, same_test, both, never}
use Rattle.bar.specs.Range.{range}
use Rattle.bar.specs.Bar.{no_bar}
use Rattle.bar.specs.declared.range.Range.{Range}
use Rattle.bar.specs.declared.range.Aperture.{Aperture}
use Rattle.bar.specs.declared.memory_bar.MemoryBar.{MemoryBar}
use Rattle.bar.specs.declared.memory_bar.Request.TheVariants.{Auto, Fixed}
use Rattle.placement.specs.Keys.{key_count}
use Rattle.placement.specs.Place.{no_range}
use Rattle.placement.specs.Order.{size_at, request_at, comes_before, precedes}
use Rattle.placement.specs.Passes.{is_auto, waits, auto_step, auto_after}
use Rattle.placement.specs.Rule.{Given}
use Rattle.placement.proofs.Counts.{counted, counted_less, counted_most, counted_has}
use Rattle.placement.proofs.Orders.{before_is, not_both_before, fixed_first, among_auto, precedes_other}
use Rattle.placement.proofs.Waits.{waits_auto, waits_size, waits_empty, is_waiting, waits_same}
use Rattle.placement.proofs.Nexts.{Foremost}
use Rattle.placement.proofs.Largests.{none_waits}
use Rattle.placement.proofs.Rules.{by_request}
use Rattle.placement.proofs.Cases.{auto_cases}
use Rattle.placement.proofs.Sounds.{Sound, sound_same, turn_refused, turn_given}
use Rattle.placement.proofs.FixedPass.{Kept, kept_onward, fixed_below, below_auto, below_fixed}

module _ (aperture : Aperture) (bars : List MemoryBar) where
  -- a fixed BAR is done, and an automatic one that has a range
  abbrev pub done_in : List Range → ℕ → Bool
  done_in placed k = not (is_auto (request_at bars k)) || ltb 0 (get_or placed k no_range).size

  done_fixed : (placed : List Range) (k a : ℕ) → request_at bars k ≡ Fixed a → done_in placed k ≡ true
  done_fixed placed k a e = rw e

  done_auto : (placed : List Range) (k : ℕ) → request_at bars k ≡ Auto → done_in placed k ≡ ltb 0 (get_or placed k no_range).size
  done_auto placed k e = rw e

  -- what is not done is automatic and has no range
  pub not_done : (placed : List Range) (k : ℕ) → done_in placed k ≡ false → (request_at bars k ≡ Auto) × ((get_or placed k no_range).size ≡ 0)
  not_done placed k t =
      ⊎_elim (λ (e : request_at bars k ≡ Auto). (e, let h = ltb-false 0 (get_or placed k no_range).size (sym (done_auto placed k e) ∙ t) in omega arith)) (λ e. absurd (both (done_fixed placed k e.0 e.1) t)) (by_request (request_at bars k))

  -- after n turns
  pub record Ahead (n : ℕ) (placed : List Range) : Type 0 where
    pub sound : Sound aperture bars (done_in placed) placed
    pub ahead : (j k : ℕ) → j < key_count → k < key_count → done_in placed j ≡ true → waits bars placed k ≡ true → precedes bars j k ≡ true
    pub left : (counted (waits bars placed) key_count + n ≤ key_count) ⊎ ((k : ℕ) → k < key_count → waits bars placed k ≡ false)

  -- the first pass leaves it so
  pub ahead_first : (placed : List Range) → Sound aperture bars (fixed_below aperture bars key_count) placed → Ahead 0 placed
  ahead_first placed s =
      let same : (k : ℕ) → k < key_count → fixed_below aperture bars key_count k ≡ done_in placed k = λ k h.
      ⊎_elim
      (λ (e : request_at bars k ≡ Auto).
      let f = below_auto aperture bars key_count k e in
      f ∙ sym (done_auto placed k e ∙ rw (s.blank k h f)))
      (λ e. below_fixed aperture bars key_count k e.0 e.1 ∙ lt-ltb k key_count h ∙ sym (done_fixed placed k e.0 e.1))
      (by_request (request_at bars k)) in
      record {
        sound = sound_same aperture bars (fixed_below aperture bars key_count) (done_in placed) placed same s;
        ahead = λ j k h l t w.
            ⊎_elim (λ (e : request_at bars j ≡ Auto). absurd (both (same j h ∙ t) (below_auto aperture bars key_count j e))) (λ e. fixed_first bars j k e.0 e.1 (waits_auto bars placed k w)) (by_request (request_at bars j));
        left = inl (omega (arith, counted_most (waits bars placed) key_count));
      }

  module _ (n x : ℕ) (placed : List Range) (h : x < key_count) (f : Foremost bars placed x) (a : Ahead n placed) where
    -- what waits and is placed before the next one would come before it
    none_between : (k : ℕ) → k < key_count → precedes bars k x ≡ true → done_in placed k ≡ false → ⊥
    none_between k l p t =
        let d = not_done placed k t in
        let b : comes_before bars k x ≡ true = sym (among_auto bars k x d.0 (waits_auto bars placed x f.here)) ∙ p in
        let z = waits_size bars placed x f.here in
        let full : 0 < size_at bars k = ⊎_elim (λ (q : size_at bars x < size_at bars k). omega arith) (λ q. omega (arith, q.0)) (before_is bars k x b) in
        not_both_before bars k x b (f.first k l (is_waiting bars placed k d.0 full d.1) (precedes_other bars k x p))

    next_turn : (k : ℕ) → k < key_count → done_in placed k ≡ precedes bars k x
    next_turn k l =
        same_test (done_in placed k) (precedes bars k x) (λ t. a.ahead k x l h t f.here)
        (λ p. ⊎_elim (λ (t : done_in placed k ≡ true). t) (λ (t : done_in placed k ≡ false). absurd (none_between k l p t)) (true_or_false (done_in placed k)))

    pub next_sound : Sound aperture bars (λ k. precedes bars k x) placed
    next_sound = sound_same aperture bars (done_in placed) (λ k. precedes bars k x) placed next_turn a.sound

    module _ (address : ℕ) (g : Given aperture (get_or bars x no_bar) placed address) where
      abbrev after : List Range
      after = set placed x (range address (size_at bars x))

      size_here : (get_or after x no_range).size ≡ size_at bars x
      size_here = ap (λ (r : Range). r.size) (get_or-set_same placed x (range address (size_at bars x)) no_range (rw a.sound.long h))

      other : (k : ℕ) → (k ≡ x → ⊥) → get_or after k no_range ≡ get_or placed k no_range
      other k d = get_or-set_other placed x k (range address (size_at bars x)) no_range d

      done_here : done_in after x ≡ true
      done_here = done_auto after x (waits_auto bars placed x f.here) ∙ rw size_here (lt-ltb 0 (size_at bars x) (waits_size bars placed x f.here))

      done_other : (k : ℕ) → (k ≡ x → ⊥) → done_in after k ≡ done_in placed k
      done_other k d = rw (other k d)

      waits_here : waits bars after x ≡ false
      waits_here = never (waits bars after x) (λ w. omega (arith, waits_size bars placed x f.here, waits_empty bars after x w, size_here))

      -- what waits after it waited before
      waits_other : (k : ℕ) → waits bars after k ≡ true → (k ≡ x → ⊥) × (waits bars placed k ≡ true)
      waits_other k w =
          let d : k ≡ x → ⊥ = λ q. both w (rw q waits_here) in
          (d, sym (waits_same bars after placed k (other k d)) ∙ w)

      pub ahead_more : Ahead (suc n) after
      ahead_more =
          record {
            sound = turn_given aperture bars x placed h next_sound address g (done_in after) done_here (λ k l d. done_other k d ∙ next_turn k l);
            ahead = λ j k l m t w.
                let o = waits_other k w in
                ⊎_elim
                (λ (q : j ≡ x). rw (q, among_auto bars x k (waits_auto bars placed x f.here) (waits_auto bars placed k o.1)) (f.first k m o.1 o.0))
                (λ (q : j ≡ x → ⊥). a.ahead j k l m (sym (done_other j q) ∙ t) o.1)
                (same_or_not j x);
            left = ⊎_elim (λ (q : counted (waits bars placed) key_count + n ≤ key_count). inl (omega (arith, counted_less (waits bars placed) (waits bars after) (λ k w. (waits_other k w).1) x key_count h f.here waits_here))) (λ q. absurd (both f.here (q x h))) a.left;
          }

  pub auto_kept : (placed : List Range) (n : ℕ) → Ahead 0 placed → Kept aperture bars (Ahead n) (auto_after aperture bars placed n)
  unfolding auto_after
  auto_kept placed zero a = a
  auto_kept placed (suc n) a =
      let Y = Ahead (suc n) in
      kept_onward aperture bars (Ahead n) Y (auto_step aperture bars) (auto_after aperture bars placed n) (auto_kept placed n a)
      (λ now b.
      auto_cases aperture bars now (Kept aperture bars Y)
      (λ e. record { sound = b.sound; ahead = b.ahead; left = inr (none_waits bars now e) })
      (λ x address h f g. ahead_more n x now h f b address g)
      (λ x h f r. turn_refused aperture bars x now h (next_sound n x now h f b) _ r))

  -- after as many turns as there are keys nothing waits
  pub all_done : (placed : List Range) → Ahead key_count placed → (k : ℕ) → k < key_count → waits bars placed k ≡ false
  all_done placed a k h =
      ⊎_elim (λ (q : counted (waits bars placed) key_count + key_count ≤ key_count). never (waits bars placed k) (λ t. omega (arith, counted_has (waits bars placed) k key_count h t)))
      (λ (q : (k : ℕ) → k < key_count → waits bars placed k ≡ false). q k h) a.left
