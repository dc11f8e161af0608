-- Refusal 11 is given exactly for one of the five reasons of its row.
use Prim.Native.Nat.{ℕ, ◌+◌}
use mathlib.Core.Bool.{true, ◌||◌, or-true}
use mathlib.Core.List.{List}
use mathlib.Core.Logic.{⊎_elim}
use mathlib.Core.Path.{◌≡◌}
use borrow.Author.Tests.{lt-ltb, ltb-true, eq-eqb, eqb-true}
use Rattle.word.proofs.Tests.{or_cases}
use Rattle.capability.specs.Size.{header_size}
use Rattle.capability.specs.Declaration.{effect_count_of, length_at, latest}
use Rattle.capability.specs.BadEffect.{is_empty, starts_early, ends_late, overlaps_earlier, covers_writable, effect_bad}
use Rattle.capability.specs.Fault.{Fault, empty, early, late, overlapping, writable}
use Rattle.capability.specs.declared.declared.Capabilities.{Capabilities}
use Rattle.capability.proofs.BadEffects.{earlier_has, earlier_found, writable_has, writable_found}

module _ (mask : List ℕ) (d : Capabilities) (o w : ℕ) where
  pub bad_fault : effect_bad mask d o w ≡ true → Fault mask d o w
  unfolding effect_bad
  bad_fault e =
      let body = length_at d (latest d) in
      let earlier = overlaps_earlier d.effects (effect_count_of d) (latest d) o w in
      let last = covers_writable mask o w in
      ⊎_elim (λ a. empty (eqb-true w 0 a))
      (λ r. ⊎_elim (λ a. early (ltb-true o header_size a))
      (λ s. ⊎_elim (λ a. late (ltb-true (header_size + body) (o + w) a))
      (λ t. ⊎_elim (λ a. overlapping (earlier_has d.effects (effect_count_of d) (latest d) o w a)) (λ a. writable (writable_has mask o w a)) (or_cases earlier last t))
      (or_cases (ends_late body o w) (earlier || last) s))
      (or_cases (starts_early o) (ends_late body o w || (earlier || last)) r))
      (or_cases (is_empty w) (starts_early o || (ends_late body o w || (earlier || last))) e)

  pub fault_bad : Fault mask d o w → effect_bad mask d o w ≡ true
  unfolding effect_bad
  fault_bad (empty e) = simp (eq-eqb w 0 e)
  fault_bad (early h) = simp (lt-ltb o header_size h, or-true)
  fault_bad (late h) = simp (lt-ltb (header_size + length_at d (latest d)) (o + w) h, or-true)
  fault_bad (overlapping f) = simp (earlier_found d.effects (effect_count_of d) (latest d) o w f, or-true)
  fault_bad (writable f) = simp (writable_found mask o w f, or-true)
