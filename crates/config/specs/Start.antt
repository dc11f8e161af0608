-- A function at power-on (document 01, "Power-on image").
use Rattle.std.specs.Prelude.{List, map}
use Rattle.bar.specs.State.{reset_of}
use Rattle.bar.specs.declared.bar_state.BarState.{BarState}
use Rattle.capability.specs.declared.placed.Placed.{Placed}
use Rattle.config.specs.declared.power_on.PowerOn.{PowerOn}
use Rattle.config.specs.declared.state.FunctionState.{FunctionState}

-- "Each function keeps two images .., power-on and live, and the write masks", the BARs as placed, "revision, which starts at 0"
abbrev pub power_on_state : PowerOn → List BarState → Placed → FunctionState
power_on_state p bars placed =
    record { live = p.image; power_on = p.image; mask = p.mask; bars = map reset_of bars; placed = placed; revision = 0 }
