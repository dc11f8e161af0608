-- `Bus::none` has the blank function in every place.
use Rattle.bus.specs.Bus.{empty_bus}
use Rattle.bus.proofs.state.Bus.none.Goals as goal

pub returns : goal.returns
unfolding empty_bus
returns c = rw c.no_function_state-none.ensures
