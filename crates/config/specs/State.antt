-- A function's state: what its slots hold, and which offsets are a BAR's register.
use Rattle.std.specs.Prelude.{ℕ, ◌-◌, ◌/◌, Bool, not, ◌&&◌, List, leb, ltb, eqb, get_or, set, replicate}
use Rattle.address.specs.Layout.{bar_start, bar_end, bar_register_size}
use Rattle.bar.specs.State.{no_state}
use Rattle.bar.specs.declared.bar_state.BarState.{BarState}
use Rattle.capability.specs.Size.{body_most}
use Rattle.capability.specs.declared.snapshot.Snapshot.{Snapshot}
use Rattle.config.specs.declared.state.FunctionState.{FunctionState}

-- the BAR at an index, that of an empty slot past the last
abbrev pub bar_at : List BarState → ℕ → BarState
bar_at bars i = get_or bars i no_state

-- the slot whose register has the byte at an offset
abbrev pub slot_at : ℕ → ℕ
slot_at o = (o - bar_start) / bar_register_size

-- whether an offset lies in the register of a slot that has a BAR
unfoldable pub in_bar : List BarState → ℕ → Bool
in_bar bars o = leb bar_start o && (ltb o bar_end && not (eqb (bar_at bars (slot_at o)).plan.size 0))

-- the state with another live image and revision, or with one BAR changed; all else stays
abbrev pub with_live : FunctionState → List ℕ → ℕ → FunctionState
with_live f live revision =
    record { live = live; power_on = f.power_on; mask = f.mask; bars = f.bars; placed = f.placed; revision = revision }

abbrev pub with_bar : FunctionState → ℕ → BarState → FunctionState
with_bar f i b =
    record { live = f.live; power_on = f.power_on; mask = f.mask; bars = set f.bars i b; placed = f.placed; revision = f.revision }

-- the copy of no body
abbrev pub no_body : Snapshot
no_body = record { length = 0; bytes = replicate body_most 0 }
