-- The bound that axdevice asserts in debug builds: addresses lie below 4 GiB. proofs/States.antt shows that every step keeps it.
use Rattle.std.specs.Prelude.{◌<◌}
use Rattle.bar.specs.Range.{four_gib}
use Rattle.bar.specs.declared.bar_state.BarState.{BarState}

-- of the committed address and of the one at power-on
pub record Bounded (b : BarState) : Type 0 where
  pub now : b.address < four_gib
  pub placed : b.plan.address < four_gib
