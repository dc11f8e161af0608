-- The layout gives an answer exactly if its ruling holds: the first capability at fault decides, an id before the end of the space, and a capability ends after the space exactly if it does in every layout.
use Prim.Native.Nat.{ℕ, suc, ◌<◌, ◌≤◌}
use mathlib.Core.Bool.{Bool, true, false}
use mathlib.Core.Logic.{⊎_elim}
use mathlib.Core.Path.{◌≡◌, refl, ◌∙◌}
use native.Mathlib.Omega.{arith}
use borrow.Author.Tests.{lt-ltb, le-ltb, ltb-true, ltb-false}
use Rattle.std.proofs.Common.{Result, Ok, Err}
use Rattle.word.specs.Search.{first_below}
use Rattle.word.proofs.Tests.{below_or_not, true_or_false, both}
use Rattle.word.proofs.Searches.{least_is, least_at, least_none}
use Rattle.capability.specs.Declaration.{count_of, length_at}
use Rattle.capability.specs.Offset.{end_at}
use Rattle.capability.specs.Repeat.{repeats_at}
use Rattle.capability.specs.Layout.{fault_at, refusal_at, answer_of, repeated_at, past_at}
use Rattle.capability.specs.Arranged.{Fit}
use Rattle.capability.specs.Ruling.{Distinct, Ruling, placed, repeated, past}
use Rattle.capability.specs.declared.declared.Capabilities.{Capabilities}
use Rattle.capability.specs.declared.layout.LayoutRefusal.{LayoutRefusal}
use Rattle.capability.proofs.Offsets.{inside_fit, fit_inside}

-- capability k has no fault: no repeated id, and it ends in the space
pub record Fine (space : ℕ) (d : Capabilities) (k : ℕ) : Type 0 where
  pub distinct : repeats_at d k ≡ false
  pub inside : end_at (length_at d) k ≤ space

module _ (space : ℕ) (d : Capabilities) where
  -- the first n have none
  abbrev pub AllFine : ℕ → Type 0
  AllFine n = (j : ℕ) → j < n → Fine space d j

  fine_none : (k : ℕ) → Fine space d k → fault_at space d k ≡ false
  fine_none k f = rw (f.distinct, le-ltb space (end_at (length_at d) k) f.inside)

  none_fine : (k : ℕ) → fault_at space d k ≡ false → Fine space d k
  none_fine k e =
      ⊎_elim (λ (r : repeats_at d k ≡ true). let z : ◌≡◌ {A = Bool} true false = rw r at e in absurd (both {t = true} refl z))
      (λ (r : repeats_at d k ≡ false). record { distinct = r; inside = ltb-false space (end_at (length_at d) k) (rw r at e) })
      (true_or_false (repeats_at d k))

  -- that is: no id is repeated, and they have a layout
  fine_distinct : (n : ℕ) → AllFine n → Distinct d n
  fine_distinct n f j h = (f j h).distinct

  fine_fit : (n : ℕ) → AllFine n → Fit space (length_at d) n
  fine_fit n f = inside_fit (length_at d) space n (λ j h. (f j h).inside)

  all_fine : (n : ℕ) → Distinct d n → Fit space (length_at d) n → AllFine n
  all_fine n s f j h = record { distinct = s j h; inside = fit_inside (length_at d) space n f j h }

  -- what the first fault answers
  first_fault_lem : (k : ℕ) → k < count_of d → AllFine k → fault_at space d k ≡ true → answer_of space d ≡ Err (refusal_at d k)
  unfolding answer_of
  first_fault_lem k h b e = rw (least_at (fault_at space d) (count_of d) k h e (λ j l. fine_none j (b j l)), lt-ltb k (count_of d) h)

  -- the three answers, in the terms of the check
  pub rule_placed : AllFine (count_of d) → answer_of space d ≡ Ok tt
  unfolding answer_of
  rule_placed b = rw (least_none (fault_at space d) (count_of d) (λ j l. fine_none j (b j l)), le-ltb (count_of d) (count_of d) (omega arith))

  pub rule_repeated : (k : ℕ) → k < count_of d → AllFine k → repeats_at d k ≡ true → answer_of space d ≡ Err (repeated_at k)
  rule_repeated k h b e = first_fault_lem k h b (rw e) ∙ rw e

  pub rule_past : (k : ℕ) → k < count_of d → AllFine k → repeats_at d k ≡ false → space < end_at (length_at d) k → answer_of space d ≡ Err (past_at k)
  rule_past k h b e l = first_fault_lem k h b (rw (e, lt-ltb space (end_at (length_at d) k) l)) ∙ rw e

  -- a capability that has no layout with those before it ends after the space, and the other way
  no_fit_past : (k : ℕ) → AllFine k → (Fit space (length_at d) (suc k) → ⊥) → space < end_at (length_at d) k
  no_fit_past k b n =
      ⊎_elim (λ (h : space < end_at (length_at d) k). h)
      (λ (h : end_at (length_at d) k ≤ space). absurd (n (inside_fit (length_at d) space (suc k) (λ j l.
      ⊎_elim (λ (m : j < k). (b j m).inside) (λ (m : k ≤ j). let q : j ≡ k = omega arith in rw q h) (below_or_not j k)))))
      (below_or_not space (end_at (length_at d) k))

  past_no_fit : (k : ℕ) → space < end_at (length_at d) k → Fit space (length_at d) (suc k) → ⊥
  past_no_fit k h f = omega (arith, fit_inside (length_at d) space (suc k) f k (omega arith))

  distinct_more : (k : ℕ) → Distinct d k → repeats_at d k ≡ false → Distinct d (suc k)
  distinct_more k s e j h = ⊎_elim (λ (l : j < k). s j l) (λ (l : k ≤ j). let q : j ≡ k = omega arith in rw q e) (below_or_not j k)

  -- an answer is given where its ruling holds
  pub ruling_is : (a : Result (Unit {0}) LayoutRefusal) → Ruling space d a → answer_of space d ≡ a
  ruling_is a (placed s f) = rule_placed (all_fine (count_of d) s f)
  ruling_is a (repeated k h s f e) = rule_repeated k h (all_fine k s f) e
  ruling_is a (past k h s f n) =
      let b = all_fine k (λ j l. s j (omega arith)) f in
      rule_past k h b (s k (omega arith)) (no_fit_past k b n)

  -- and one always holds
  pub ruling : Ruling space d (answer_of space d)
  ruling =
      let k = first_below (fault_at space d) (count_of d) in
      let least = least_is (fault_at space d) (count_of d) in
      let before : AllFine k = λ j l. none_fine j (least.none j l) in
      ⊎_elim (λ (h : k < count_of d).
      ⊎_elim (λ (r : repeats_at d k ≡ true). rw (rule_repeated k h before r) (repeated k h (fine_distinct k before) (fine_fit k before) r))
      (λ (r : repeats_at d k ≡ false).
      let l : space < end_at (length_at d) k = ltb-true space (end_at (length_at d) k) (rw r at (least.holds h)) in
      rw (rule_past k h before r l) (past k h (distinct_more k (fine_distinct k before) r) (fine_fit k before) (past_no_fit k l)))
      (true_or_false (repeats_at d k)))
      (λ (h : count_of d ≤ k).
      let b : AllFine (count_of d) = λ j l. before j (omega arith) in
      rw (rule_placed b) (placed (fine_distinct (count_of d) b) (fine_fit (count_of d) b)))
      (below_or_not k (count_of d))

  -- so each answer says what it says
  of_placed : Ruling space d (Ok tt) → AllFine (count_of d)
  of_placed (placed s f) = all_fine (count_of d) s f

  pub placed_fine : answer_of space d ≡ Ok tt → AllFine (count_of d)
  placed_fine e = of_placed (rw e at ruling)

  pub repeated_is : (k : ℕ) → answer_of space d ≡ Err (repeated_at k) → Ruling space d (Err (repeated_at k))
  repeated_is k e = rw e at ruling

  pub past_is : (k : ℕ) → answer_of space d ≡ Err (past_at k) → Ruling space d (Err (past_at k))
  past_is k e = rw e at ruling

  -- 12 before 13: where both hold at the first capability at fault, the id decides
  pub repeated_first : (k : ℕ) → k < count_of d → AllFine k → repeats_at d k ≡ true → space < end_at (length_at d) k → answer_of space d ≡ Err (repeated_at k)
  repeated_first k h b r l = rule_repeated k h b r
