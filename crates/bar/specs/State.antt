-- A BAR's state and its steps (document 01, "Access and reset").
use Rattle.std.specs.Prelude.{ℕ, Bool, true, false, cond, Option, Some, None}
use Rattle.word.specs.Number.{merge}
use Rattle.address.specs.Kinds.{slot}
use Rattle.bar.specs.Range.{range}
use Rattle.bar.specs.Register.{size_mask, committed, class_of}
use Rattle.bar.specs.declared.range.Range.{Range}
use Rattle.bar.specs.declared.bar_state.Plan.{Plan}
use Rattle.bar.specs.declared.bar_state.BarState.{BarState}
use Rattle.bar.specs.declared.bar_state.BarWrite.{BarWrite}

abbrev pub state : Plan → ℕ → Bool → BarState
state p address probing = record { plan = p; address = address; probing = probing }

-- what stands in a slot with no BAR: a plan of size 0
abbrev pub no_state : BarState
no_state = state (record { slot = slot 0; size = 0; address = 0 }) 0 false

-- as placed, not probing: at the start and after a reset
abbrev pub fresh : Plan → BarState
fresh p = state p p.address false

abbrev pub reset_of : BarState → BarState
reset_of b = fresh b.plan

-- "a read shows the committed address with low four bits zero, or, while probing, the size mask"
unfoldable pub shown : BarState → ℕ
shown b = cond b.probing (size_mask b.plan.size) (committed b.address)

-- "A write merges its bytes into the committed dword, also while probing."
unfoldable pub asks : BarState → ℕ → ℕ → ℕ → BarWrite
asks b lane width value = class_of (merge (committed b.address) lane width value)

-- "If the result is 0xffffffff, probing starts."
abbrev pub probed : BarState → BarState
probed b = state b.plan b.address true

-- "Otherwise probing ends"; the address is the accepted one, or "stays"
abbrev pub relocated : BarState → Option ℕ → BarState
relocated b (Some a) = state b.plan a false
relocated b None = state b.plan b.address false

-- the committed range
abbrev pub range_of : BarState → Range
range_of b = range b.address b.plan.size
