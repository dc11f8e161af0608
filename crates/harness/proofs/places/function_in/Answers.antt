-- `function_in`: the BARs of all six slots.
use Rattle.harness.proofs.places.function_in.Goals as goal

pub returns : goal.returns
returns c = rw c.bars_in.ensures
