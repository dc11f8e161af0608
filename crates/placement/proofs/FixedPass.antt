-- The first pass: after n keys the fixed BARs below n are done, or one was refused by its row.
use Prim.Native.Nat.{ℕ, zero, suc, ◌<◌, ◌≤◌}
use mathlib.Core.Bool.{Bool, true, false, not, ◌&&◌}
use mathlib.Core.List.{List}
use mathlib.Core.Logic.{⊎_elim}
use mathlib.Core.Path.{◌≡◌, sym, ◌∙◌}
use native.Mathlib.Omega.{arith}
use borrow.Author.Tests.{lt-ltb, ltb-true}
use lib.Dec.{ltb}
use lib.ListN.{length-replicate, get_or-replicate}
use Rattle.std.specs.Prelude.{Ok, Err}
use Rattle.word.proofs.Tests.{below_or_not, same_or_not, ltb_same, and_right}
use Rattle.bar.specs.declared.range.Range.{Range}
use Rattle.bar.specs.declared.range.Aperture.{Aperture}
use Rattle.bar.specs.declared.memory_bar.MemoryBar.{MemoryBar}
use Rattle.bar.specs.declared.memory_bar.Request.TheVariants.{Auto, Fixed}
use Rattle.placement.specs.Keys.{key_count}
use Rattle.placement.specs.Place.{no_range}
use Rattle.placement.specs.Order.{request_at, precedes}
use Rattle.placement.specs.Passes.{Placing, onward, is_auto, nothing_yet, fixed_step, fixed_after}
use Rattle.placement.specs.Outcome.{FirstRefused}
use Rattle.placement.proofs.Orders.{among_fixed, auto_last}
use Rattle.placement.proofs.Rules.{by_request}
use Rattle.placement.proofs.Cases.{fixed_cases}
use Rattle.placement.proofs.Sounds.{Sound, sound_same, turn_refused, turn_given}

module _ (aperture : Aperture) (bars : List MemoryBar) where
  -- what a pass keeps: something of what is placed while it goes on, and a row once it is refused
  abbrev pub Kept : (List Range → Type 0) → Placing → Type 0
  Kept X (Ok placed) = X placed
  Kept X (Err e) = FirstRefused aperture bars e.refusal e.key

  -- a step keeps it
  pub kept_onward : (X Y : List Range → Type 0) (step : List Range → Placing) (s : Placing) → Kept X s → ((placed : List Range) → X placed → Kept Y (step placed)) → Kept Y (onward step s)
  kept_onward X Y step (Ok placed) k f = f placed k
  kept_onward X Y step (Err e) k f = k

  -- whether a key below n has a fixed BAR
  abbrev pub fixed_below : ℕ → ℕ → Bool
  fixed_below n k = not (is_auto (request_at bars k)) && ltb k n

  pub below_auto : (n k : ℕ) → request_at bars k ≡ Auto → fixed_below n k ≡ false
  below_auto n k e = rw e

  pub below_fixed : (n k a : ℕ) → request_at bars k ≡ Fixed a → fixed_below n k ≡ ltb k n
  below_fixed n k a e = rw e

  below_other : (n k : ℕ) → (k ≡ n → ⊥) → fixed_below n k ≡ fixed_below (suc n) k
  below_other n k d =
      rw (ltb_same k n k (suc n) (λ h. omega arith) (λ h. ⊎_elim (λ (l : k < n). l) (λ (l : n ≤ k). absurd (d (omega arith))) (below_or_not k n)))

  -- an automatic BAR changes nothing
  below_idle : (n k : ℕ) → request_at bars n ≡ Auto → fixed_below n k ≡ fixed_below (suc n) k
  below_idle n k e =
      ⊎_elim (λ (q : k ≡ n). rw q (below_auto n n e ∙ sym (below_auto (suc n) n e))) (λ (q : k ≡ n → ⊥). below_other n k q) (same_or_not k n)

  -- at the turn of a fixed one those placed before it are done
  below_turn : (n k a : ℕ) → request_at bars n ≡ Fixed a → fixed_below n k ≡ precedes bars k n
  below_turn n k a e =
      ⊎_elim (λ (f : request_at bars k ≡ Auto). below_auto n k f ∙ sym (auto_last bars k n a f e)) (λ f. below_fixed n k f.0 f.1 ∙ sym (among_fixed bars k n f.0 a f.1 e)) (by_request (request_at bars k))

  sound_none : Sound aperture bars (fixed_below 0) nothing_yet
  sound_none =
      let none : (k : ℕ) → fixed_below 0 k ≡ true → ⊥ = λ k t. omega (arith, ltb-true k 0 (and_right (not (is_auto (request_at bars k))) (ltb k 0) t)) in
      record { long = length-replicate key_count no_range; given = λ k h t. absurd (none k t); sized = λ k h t. absurd (none k t); blank = λ k h t. get_or-replicate key_count k no_range no_range h }

  pub fixed_kept : (n : ℕ) → n ≤ key_count → Kept (Sound aperture bars (fixed_below n)) (fixed_after aperture bars n)
  unfolding fixed_after
  fixed_kept zero h = sound_none
  fixed_kept (suc n) h =
      let X = Sound aperture bars (fixed_below n) in
      let Y = Sound aperture bars (fixed_below (suc n)) in
      kept_onward X Y (fixed_step aperture bars n) (fixed_after aperture bars n) (fixed_kept n (omega arith))
      (λ placed s.
      let at_turn : (a : ℕ) → request_at bars n ≡ Fixed a → Sound aperture bars (λ k. precedes bars k n) placed = λ a e. sound_same aperture bars (fixed_below n) (λ k. precedes bars k n) placed (λ k l. below_turn n k a e) s in
      fixed_cases aperture bars placed (Kept Y) n
      (λ e. sound_same aperture bars (fixed_below n) (fixed_below (suc n)) placed (λ k l. below_idle n k e) s)
      (λ a e g. turn_given aperture bars n placed (omega arith) (at_turn a e) a g (fixed_below (suc n)) (below_fixed (suc n) n a e ∙ lt-ltb n (suc n) (omega arith)) (λ k l d. sym (below_other n k d) ∙ below_turn n k a e))
      (λ a refusal e r. turn_refused aperture bars n placed (omega arith) (at_turn a e) refusal r))
