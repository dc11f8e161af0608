-- The byte modes of capability.rs (byte_mode), asked of the capability at an index, as a definition: `modes_agree` shows that they are those of the owners, where the record is a layout's and that capability holds the byte.
use Rattle.std.specs.Prelude.{Option, Some, None, ℕ, ◌+◌, ◌-◌, Bool, ◌&&◌, cond, List, ltb, leb, eqb, get_or}
use Rattle.word.specs.Search.{any_below}
use Rattle.word.specs.Interval.{covers}
use Rattle.capability.specs.Size.{header_size}
use Rattle.capability.specs.Owner.{effect_count, capability_at, effect_at, start_of}
use Rattle.capability.specs.declared.placed.Placed.{Placed}
use Rattle.capability.specs.declared.byte_mode.ByteMode.{ByteMode}
use Rattle.capability.specs.declared.byte_mode.ByteMode.TheVariants as mode

-- `(start..end).contains(&relative)`, of an effect of the capability at index c
abbrev pub contains : Placed → ℕ → ℕ → ℕ → Bool
contains p c j i = eqb (effect_at p i).capability c && covers (effect_at p i).offset (effect_at p i).length (j - start_of p c)

-- `byte_mode` of that capability at config byte j, and its None
abbrev pub rust_mode : Placed → List ℕ → ℕ → ℕ → Option ByteMode
rust_mode p mask c j =
    cond (ltb j (start_of p c)) None
    (cond (leb (header_size + (capability_at p c).length) (j - start_of p c)) None
    (Some
    (cond (ltb (j - start_of p c) header_size) mode.Constant
    (cond (any_below (contains p c j) (effect_count p)) mode.EffectOnly
    (cond (eqb (get_or mask j 0) 0) mode.Constant mode.StoredMasked)))))
