-- `function_start`: BARs as placed, the capabilities laid out, and the image of both.
use Rattle.bus.specs.Start.{function_start}
use Rattle.bus.proofs.power_up.function_start.Goals as goal

pub returns : goal.returns
unfolding function_start
returns c =
    rw (c.new.ensures, c.build-power_on.ensures, c.unwrap_or-placed.ensures, c.layout_capabilities.ensures, c.none.ensures, c.bars_placed-bars.ensures)
