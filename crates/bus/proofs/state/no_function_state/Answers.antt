-- `no_function_state` is blank in every part.
use Rattle.bus.specs.Bus.{no_function_state}
use Rattle.bus.proofs.state.no_function_state.Goals as goal

pub returns : goal.returns
unfolding no_function_state
returns c =
    rw (c.no_image.ensures, c.no_image-2.ensures, c.no_image-3.ensures, c.none-none.ensures, c.none.ensures)
