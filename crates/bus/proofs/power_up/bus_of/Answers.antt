-- `bus_of`: the parts are those of the definition.
use Rattle.bus.specs.Start.{bus_of}
use Rattle.bus.proofs.power_up.bus_of.Goals as goal

pub returns : goal.returns
unfolding bus_of
returns c = rw (c.functions_of.ensures, c.devices_of.ensures)
