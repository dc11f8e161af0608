-- Refusal 12 of document 01 at a capability: "effect id repeated in the function", by an effect of this capability.
use Rattle.std.specs.Prelude.{ℕ, ◌<◌, Bool, ◌&&◌, List, ◌≡◌, eqb, get_or}
use Rattle.word.specs.Search.{any_below}
use Rattle.capability.specs.Effect.{no_effect}
use Rattle.capability.specs.Declaration.{effect_count_of, declared_effect}
use Rattle.capability.specs.declared.effect.Effect.{Effect}
use Rattle.capability.specs.declared.declared.Capabilities.{Capabilities}

-- whether one of the first n effects has the id
abbrev pub id_among : List Effect → ℕ → ℕ → Bool
id_among effects id n = any_below (λ i. eqb (get_or effects i no_effect).id id) n

-- whether effect j is one of capability k that has an earlier effect's id
abbrev pub repeats : List Effect → ℕ → ℕ → Bool
repeats effects k j = eqb (get_or effects j no_effect).capability k && id_among effects (get_or effects j no_effect).id j

-- whether capability k has such an effect
unfoldable pub repeats_at : Capabilities → ℕ → Bool
repeats_at d k = any_below (repeats d.effects k) (effect_count_of d)

-- the same in words, which the laws of proofs/Repeats.antt show
pub record Repeat (d : Capabilities) (k : ℕ) : Type 0 where
  pub index : ℕ
  pub below : index < effect_count_of d
  pub mine : (declared_effect d index).capability ≡ k
  pub earlier : ℕ
  pub before : earlier < index
  pub same : (declared_effect d earlier).id ≡ (declared_effect d index).id
