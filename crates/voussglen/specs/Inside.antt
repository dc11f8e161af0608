-- An effect as it is told, held against the access: `vg_read_inside` and `vg_write_inside` show it of every result whose kind is an effect's.
use Rattle.std.specs.Prelude.{ℕ, Bool}
use Rattle.capability.specs.Answer.{Answer}
use Rattle.bus.specs.Bus.{function_at, index_on}
use Rattle.bus.specs.declared.state.Bus.{Bus}
use Rattle.capability.specs.declared.effect_access.EffectHit.{EffectHit}

-- document 02, R-9: "Dispatch and every caller pass it on"
abbrev pub Inside : Bus → ℕ → ℕ → ℕ → Bool → EffectHit → Type 0
Inside b device o w write hit = Answer (function_at b (index_on b device)).placed o w write hit
