-- What a reset leaves: every function restored. On a sound bus every BAR is then as at power-on: where placement put it, and not probing.
use Prim.Native.Nat.{ℕ, ◌<◌}
use mathlib.Core.Path.{◌≡◌, refl, sym, ◌∙◌}
use native.Mathlib.Omega.{arith}
use lib.ListN.{length}
use Rattle.address.specs.Layout.{bar_count}
use Rattle.address.specs.Limits.{function_room}
use Rattle.bar.specs.State.{fresh}
use Rattle.config.specs.Reset.{reset_done}
use Rattle.config.specs.State.{bar_at}
use Rattle.config.proofs.Resets.{reset_state}
use Rattle.config.proofs.Kept.{reset_bars, reset_live, reset_same}
use Rattle.declaration.specs.declared.answer.Declaration.{Declaration}
use Rattle.bus.specs.Bus.{count_on, function_at}
use Rattle.bus.specs.Reset.{bus_reset_of}
use Rattle.bus.specs.Sound.{Sound}
use Rattle.bus.specs.Spent.{FunctionRestored, BusRestored}
use Rattle.bus.specs.Start.{declared_function, plan_at, addresses_in}
use Rattle.bus.specs.declared.state.Bus.{Bus}
use Rattle.bus.proofs.Restores.{reset_at, reset_past}
use Rattle.bus.proofs.SoundParts.{sound_count, sound_plan}

-- every function is restored, and all else stays
module _ (b : Bus) (room : length b.functions ≡ function_room) where
  pub reset_there : (k : ℕ) → k < count_on b → function_at (bus_reset_of b).bus k ≡ (reset_done (function_at b k)).state
  unfolding bus_reset_of
  reset_there k h = reset_at b.functions (count_on b) k (omega arith) h ∙ sym (reset_state (function_at b k))

  each : (k : ℕ) → k < count_on b → FunctionRestored (function_at b k) (function_at (bus_reset_of b).bus k)
  each k h =
      let f = function_at b k in
      rw (reset_there k h)
      (record { same = reset_same f; live = reset_live f; bars = λ i. rw (reset_bars f i); quiet = λ i. rw (reset_bars f i); revision = rw (reset_state f) })

  pub reset_restores : BusRestored b (bus_reset_of b).bus
  unfolding bus_reset_of
  reset_restores = record { aperture = refl; devices = refl; count = refl; functions = each; past = λ k h. reset_past b.functions (count_on b) k h }

module _ (d : Declaration) (b : Bus) (s : Sound d b) (k : ℕ) (h : k < d.count) where
  pub reset_function : function_at (bus_reset_of b).bus k ≡ (reset_done (function_at b k)).state
  reset_function = reset_there b s.room k (rw (sound_count d b s) h)

  pub reset_bar : (i : ℕ) → i < bar_count → bar_at (function_at (bus_reset_of b).bus k).bars i ≡ fresh (plan_at (declared_function d k) (addresses_in d) k i)
  reset_bar i l = rw (reset_function, reset_bars (function_at b k) i, sound_plan d b s k h i l)
