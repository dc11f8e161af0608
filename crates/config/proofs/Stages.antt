-- The fields of each number below n, one stage of an image: it grows by one number, and a place that only one of them has is that one's.
use Prim.Native.Nat.{ℕ, zero, suc, ◌+◌, ◌<◌}
use mathlib.Core.Bool.{true, false}
use mathlib.Core.List.{List, [], ◌++◌}
use mathlib.Core.Logic.{⊎_elim}
use mathlib.Core.Path.{◌≡◌, refl, ap, ◌∙◌}
use native.Mathlib.Nat.{eq-or-lt_of_le}
use native.Mathlib.Numerals.{add-one}
use native.Mathlib.Omega.{arith}
use Rattle.config.specs.Field.{Field, under, laid, fields_below}
use Rattle.config.proofs.Fields.{any_has, none_has, one_of, under_append, under_front, laid_none, laid_append}

module _ (f : ℕ → List Field) where
  pub stage_none : fields_below f 0 ≡ []
  unfolding fields_below
  stage_none = refl

  pub stage_more : (n : ℕ) → fields_below f (n + 1) ≡ fields_below f n ++ f n
  unfolding fields_below
  stage_more n = ap (fields_below f) (add-one n)

  -- a list with the stage laid over it: the start and the step of the loop
  pub laid_first : (l : List ℕ) → l ≡ laid l (fields_below f 0)
  laid_first l = rw (stage_none, laid_none l)

  pub laid_next : (l m : List ℕ) (n : ℕ) → m ≡ laid l (fields_below f n) → laid m (f n) ≡ laid l (fields_below f (n + 1))
  laid_next l m n e = rw (e, stage_more n) (laid_append l (fields_below f n) (f n))

  -- what holds of each number's fields, and of two lists joined, holds of the stage
  pub stage_by : (P : List Field → Type 0) → P [] → ((fs gs : List Field) → P fs → P gs → P (fs ++ gs)) → ((i : ℕ) → P (f i)) → (n : ℕ) → P (fields_below f n)
  unfolding fields_below
  stage_by P a join h zero = a
  stage_by P a join h (suc n) = join (fields_below f n) (f n) (stage_by P a join h n) (h n)

  -- a place of the stage is one of some number's fields
  pub stage_has : (n j : ℕ) → any_has (fields_below f n) j ≡ true → (i : ℕ) × (i < n) × (any_has (f i) j ≡ true)
  unfolding fields_below
  stage_has zero j e = none_has j e
  stage_has (suc n) j e =
      ⊎_elim (λ t. let r = stage_has n j t in (r.0, omega (arith, r.1), r.2)) (λ t. (n, omega arith, t)) (one_of (fields_below f n) (f n) j e)

  -- and has what the last number with a field there says, whatever stood there
  pub stage_under : (n i j v : ℕ) → i < n → ((k : ℕ) → i < k → k < n → any_has (f k) j ≡ false) → ((b : ℕ) → under b (f i) j ≡ v) → (b : ℕ) → under b (fields_below f n) j ≡ v
  unfolding fields_below
  stage_under zero i j v l alone h b = absurd (omega arith)
  stage_under (suc n) i j v l alone h b =
      ⊎_elim (λ (q : i ≡ n). under_append b (fields_below f n) (f n) j ∙ rw q at (h (under b (fields_below f n) j)))
      (λ (q : i < n). under_front b (fields_below f n) (f n) j (alone n q (omega arith)) ∙ stage_under n i j v q (λ k a c. alone k a (omega arith)) h b)
      (eq-or-lt_of_le {n = i} {m = n} (omega arith))
