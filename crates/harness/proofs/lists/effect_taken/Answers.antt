-- `effect_taken` keeps the region and reads the access from its number.
use Rattle.harness.proofs.lists.effect_taken.Goals as goal

pub returns : goal.returns
returns c = rw c.access_taken-access.ensures
