-- The five reasons of refusal 11 in words: what can be wrong with the w bytes from o on of the latest capability. The laws of proofs/Faults.antt show that `effect_bad` is true exactly if one of them holds.
use Rattle.std.specs.Prelude.{ℕ, ◌+◌, ◌<◌, true, List, ◌≡◌, get_or}
use Rattle.word.specs.Interval.{covers}
use Rattle.capability.specs.Size.{header_size}
use Rattle.capability.specs.Effect.{no_effect}
use Rattle.capability.specs.Declaration.{effect_count_of, length_at, latest}
use Rattle.capability.specs.BadEffect.{mask_at}
use Rattle.capability.specs.declared.effect.Effect.{Effect}
use Rattle.capability.specs.declared.declared.Capabilities.{Capabilities}

-- one of the first n effects is of capability k too and has a byte of the region
pub record Earlier (effects : List Effect) (n k o w : ℕ) : Type 0 where
  pub index : ℕ
  pub below : index < n
  pub there : (get_or effects index no_effect).capability ≡ k
  pub byte : ℕ
  pub mine : covers o w byte ≡ true
  pub its : covers (get_or effects index no_effect).offset (get_or effects index no_effect).length byte ≡ true

-- a byte of the region can be written by the guest
pub record Writable (mask : List ℕ) (o w : ℕ) : Type 0 where
  pub byte : ℕ
  pub mine : covers o w byte ≡ true
  pub bits : mask_at mask byte ≡ 0 → ⊥

pub data Fault (mask : List ℕ) (d : Capabilities) (o w : ℕ) : Type 0 where
  empty : w ≡ 0 → Fault mask d o w
  early : o < header_size → Fault mask d o w
  late : header_size + length_at d (latest d) < o + w → Fault mask d o w
  overlapping : Earlier d.effects (effect_count_of d) (latest d) o w → Fault mask d o w
  writable : Writable mask o w → Fault mask d o w
