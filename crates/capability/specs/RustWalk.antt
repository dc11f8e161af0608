-- The walk of capability.rs (effect_for_access) under that of config.rs (config_effect), with all of its tests, as a definition: `walk_agrees` shows that it gives what the owners give, where the record is a layout's and the access has a byte. So "multiple effects" and "crosses a boundary" change no answer.
use Rattle.std.specs.Prelude.{None, Ok, Err, ℕ, zero, suc, ◌+◌, Bool, ◌&&◌, ◌||◌, cond, ltb, leb, eqb}
use Rattle.refusal.specs.declared.refusal.Refusal.TheVariants as refusal
use Rattle.capability.specs.Owner.{capability_count, effect_count, effect_at, start_of, region_from, region_to}
use Rattle.capability.specs.Touch.{Touch, allows, effect_answer}
use Rattle.capability.specs.Laid.{finish_of}
use Rattle.capability.specs.declared.placed.Placed.{Placed}

-- what a walk has: no effect yet, one, or an error
pub data Found : Type 0 where
  none : Found
  one : ℕ → Found
  bad : Found

-- `matched.replace(*effect).is_some()` is the error "covers multiple capability effects"
abbrev pub again : ℕ → Found → Found
again i none = one i
again i (one k) = bad
again i bad = bad

-- a capability that found nothing leaves the answer to the next
abbrev pub or_next : Found → Found → Found
or_next none g = g
or_next (one k) g = one k
or_next bad g = bad

-- the answer of `config_effect`, and R-9's offset, which the Rust has not
abbrev pub told : Placed → ℕ → Found → Touch
told p o none = Ok None
told p o (one i) = effect_answer p o i
told p o bad = Err refusal.BadTouch

-- `config_offset < end && start < access_end`, of an effect of the capability at index c
abbrev pub reached : Placed → ℕ → ℕ → ℕ → ℕ → Bool
reached p o w c i = eqb (effect_at p i).capability c && (ltb o (region_to p i) && ltb (region_from p i) (o + w))

-- `contained` and `allowed`
abbrev pub passes : Placed → ℕ → ℕ → Bool → ℕ → Bool
passes p o w write i = (leb (region_from p i) o && leb (o + w) (region_to p i)) && allows write (effect_at p i).access

abbrev pub step : Placed → ℕ → ℕ → Bool → ℕ → ℕ → Found → Found
step p o w write c i f = cond (reached p o w c i) (cond (passes p o w write i) (again i f) bad) f

-- `for effect in &self.spec.effects`: the first n
unfoldable pub walk_effects : Placed → ℕ → ℕ → Bool → ℕ → ℕ → Found
walk_effects p o w write c zero = none
walk_effects p o w write c (suc n) = step p o w write c n (walk_effects p o w write c n)

-- the test behind "crosses a capability boundary"
abbrev pub crosses : Placed → ℕ → ℕ → ℕ → Bool
crosses p o w c = ltb o (finish_of p c) && (ltb (start_of p c) (o + w) && (ltb o (start_of p c) || ltb (finish_of p c) (o + w)))

abbrev pub bounded : Placed → ℕ → ℕ → ℕ → Found → Found
bounded p o w c none = none
bounded p o w c (one i) = cond (crosses p o w c) bad (one i)
bounded p o w c bad = bad

-- `for capability in &self.power_on.capabilities`: the first n
unfoldable pub walk_capabilities : Placed → ℕ → ℕ → Bool → ℕ → Found
walk_capabilities p o w write zero = none
walk_capabilities p o w write (suc n) = or_next (walk_capabilities p o w write n) (bounded p o w n (walk_effects p o w write n (effect_count p)))

-- what the Rust answers
abbrev pub rust_touch : Placed → ℕ → ℕ → Bool → Touch
rust_touch p o w write = told p o (walk_capabilities p o w write (capability_count p))
