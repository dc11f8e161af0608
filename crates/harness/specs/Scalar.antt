-- Registers, as numbers.
use Rattle.std.specs.Prelude.{ℕ, Bool, true, false}
use Rattle.address.specs.Kinds.{slot}
use Rattle.bar.specs.State.{state}
use Rattle.bar.specs.declared.bar_state.BarState.{BarState}
use Rattle.bar.specs.declared.bar_state.BarWrite.{BarWrite}
use Rattle.bar.specs.declared.bar_state.BarWrite.TheVariants as bar_write
use Rattle.harness.specs.declared.scalar.BarAsked.{BarAsked}

-- a BAR of a size at an address, planned there too
unfoldable pub bar_with : ℕ → ℕ → Bool → BarState
bar_with size address probing = state (record { slot = slot 0; size = size; address = address }) address probing

-- a probe, with no address, or the address of a candidate
abbrev pub asked_numbers : BarWrite → BarAsked
asked_numbers bar_write.Probe = record { probe = true; address = 0 }
asked_numbers (bar_write.Relocate a) = record { probe = false; address = a }
