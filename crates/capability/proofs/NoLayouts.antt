-- Refusals 12 and 13 as numbers, exactly: each case of the ruling says the number, and rules the other cases out.
use Prim.Native.Nat.{ℕ, suc, ◌<◌, ◌≤◌}
use mathlib.Core.Logic.{⊎_elim}
use mathlib.Core.Path.{◌≡◌, refl}
use native.Mathlib.Omega.{arith}
use Rattle.std.proofs.Common.{Result}
use Rattle.word.proofs.Tests.{below_or_not, both}
use Rattle.refusal.specs.Number.{repeated_effect, past_space}
use Rattle.capability.specs.Declaration.{count_of, length_at}
use Rattle.capability.specs.Layout.{answer_of, layout_number}
use Rattle.capability.specs.Arranged.{Fit}
use Rattle.capability.specs.Ruling.{Distinct, Ruling, placed, repeated, past, NoLayout, Again}
use Rattle.capability.specs.declared.declared.Capabilities.{Capabilities}
use Rattle.capability.specs.declared.layout.LayoutRefusal.{LayoutRefusal}
use Rattle.capability.proofs.Offsets.{fit_less}
use Rattle.capability.proofs.Rulings.{ruling}

module _ (space : ℕ) (d : Capabilities) where
  fewer : (n m : ℕ) → m ≤ n → Fit space (length_at d) n → Fit space (length_at d) m
  fewer = fit_less (length_at d) space

  -- 13
  of_past : (a : Result (Unit {0}) LayoutRefusal) → Ruling space d a → layout_number a ≡ past_space → NoLayout space d
  of_past a (placed s f) e = absurd (omega arith)
  of_past a (repeated k h s f r) e = absurd (omega arith)
  of_past a (past k h s f n) e = record { index = k; below = h; distinct = s; none = n }

  to_past : (a : Result (Unit {0}) LayoutRefusal) → Ruling space d a → NoLayout space d → layout_number a ≡ past_space
  to_past a (placed s f) n = absurd (n.none (fewer (count_of d) (suc n.index) (omega (arith, n.below)) f))
  to_past a (repeated k h s f r) n =
      ⊎_elim (λ (l : k < suc n.index). absurd (both r (n.distinct k l))) (λ (l : suc n.index ≤ k). absurd (n.none (fewer k (suc n.index) l f))) (below_or_not k (suc n.index))
  to_past a (past k h s f m) n = refl

  pub past_no_layout : layout_number (answer_of space d) ≡ past_space → NoLayout space d
  past_no_layout = of_past (answer_of space d) (ruling space d)

  pub no_layout_past : NoLayout space d → layout_number (answer_of space d) ≡ past_space
  no_layout_past = to_past (answer_of space d) (ruling space d)

  -- where no id is repeated: exactly if the capabilities have no layout that ends in the space
  module _ (s : Distinct d (count_of d)) where
    pub past_none : layout_number (answer_of space d) ≡ past_space → Fit space (length_at d) (count_of d) → ⊥
    past_none e f = let n = past_no_layout e in n.none (fewer (count_of d) (suc n.index) (omega (arith, n.below)) f)

    by_none : (a : Result (Unit {0}) LayoutRefusal) → Ruling space d a → (Fit space (length_at d) (count_of d) → ⊥) → layout_number a ≡ past_space
    by_none a (placed t f) n = absurd (n f)
    by_none a (repeated k h t f r) n = absurd (both r (s k h))
    by_none a (past k h t f m) n = refl

    pub none_past : (Fit space (length_at d) (count_of d) → ⊥) → layout_number (answer_of space d) ≡ past_space
    none_past = by_none (answer_of space d) (ruling space d)

  -- 12
  of_again : (a : Result (Unit {0}) LayoutRefusal) → Ruling space d a → layout_number a ≡ repeated_effect → Again space d
  of_again a (placed s f) e = absurd (omega arith)
  of_again a (repeated k h s f r) e = record { index = k; below = h; repeat = r; before = f }
  of_again a (past k h s f n) e = absurd (omega arith)

  to_again : (a : Result (Unit {0}) LayoutRefusal) → Ruling space d a → Again space d → layout_number a ≡ repeated_effect
  to_again a (placed s f) g = absurd (both g.repeat (s g.index g.below))
  to_again a (repeated k h s f r) g = refl
  to_again a (past k h s f n) g =
      ⊎_elim (λ (l : k < g.index). absurd (n (fewer g.index (suc k) (omega arith) g.before))) (λ (l : g.index ≤ k). absurd (both g.repeat (s g.index (omega arith)))) (below_or_not k g.index)

  pub repeated_again : layout_number (answer_of space d) ≡ repeated_effect → Again space d
  repeated_again = of_again (answer_of space d) (ruling space d)

  pub again_repeated : Again space d → layout_number (answer_of space d) ≡ repeated_effect
  again_repeated = to_again (answer_of space d) (ruling space d)
