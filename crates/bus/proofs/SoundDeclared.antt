-- A function of a sound bus has its capabilities where they were laid out, apart, and every read-only byte as it was declared.
use Prim.Native.Nat.{ℕ, ◌<◌}
use mathlib.Core.Path.{◌≡◌, ◌∙◌}
use lib.ListN.{get_or}
use Rattle.address.specs.Layout.{config_space_size}
use Rattle.capability.specs.Laid.{Laid}
use Rattle.capability.specs.LaidApart.{LaidApart}
use Rattle.capability.specs.Layout.{placed_of}
use Rattle.capability.proofs.Aparts.{layout_apart}
use Rattle.config.specs.PowerOn.{power_on_of}
use Rattle.config.specs.declared.function.Function.{Function}
use Rattle.config.specs.declared.power_on.PowerOn.{PowerOn}
use Rattle.declaration.specs.declared.answer.Declaration.{Declaration}
use Rattle.declaration.proofs.Goods.{faultless_layout}
use Rattle.bus.specs.Bus.{function_at}
use Rattle.bus.specs.Sound.{Sound}
use Rattle.bus.specs.Start.{declared_function, bars_placed, addresses_in}
use Rattle.bus.specs.declared.state.Bus.{Bus}
use Rattle.bus.proofs.SoundParts.{sound_admitted, sound_placed, sound_image, sound_mask, sound_byte}

-- image and masks of a declared function, with its BARs where placement put them
abbrev pub declared_power_on : Declaration → ℕ → PowerOn
declared_power_on d k =
    power_on_of config_space_size (declared_function d k).contents (bars_placed (declared_function d k) (addresses_in d) k) (placed_of (declared_function d k).capabilities)

module _ (d : Declaration) (b : Bus) (s : Sound d b) (k : ℕ) (h : k < d.count) where
  abbrev its : Function
  its = declared_function d k

  pub sound_apart : LaidApart (function_at b k).placed
  sound_apart =
      rw (sound_placed d b s k h, ← faultless_layout its (s.good.faultless k h)) (layout_apart config_space_size its.capabilities (s.good.functions.each k).capabilities.sound)

  pub sound_laid : Laid config_space_size (function_at b k).placed
  sound_laid = rw (sound_placed d b s k h) (sound_admitted d b s k h).laid

  pub sound_constant : (j : ℕ) → get_or (declared_power_on d k).mask j 0 ≡ 0 → get_or (function_at b k).live j 0 ≡ get_or (declared_power_on d k).image j 0
  sound_constant j e = sound_byte d b s k h j (rw (sound_mask d b s k h) e) ∙ rw (sound_image d b s k h)
