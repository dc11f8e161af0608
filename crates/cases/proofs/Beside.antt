-- Beside the P cases: the Run case's three addresses, and one refusal each of 14, 15, 16 and 17.
use mathlib.Core.Path.{◌≡◌}
use Rattle.placement.specs.Examples.{asked, told}
use Rattle.placement.proofs.Examples.{examples}

pub placements : asked ≡ told
placements = examples
