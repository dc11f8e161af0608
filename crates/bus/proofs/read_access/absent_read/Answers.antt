-- `absent_read` checks first, and has ones for every width.
use mathlib.Core.Path.{sym, ◌∙◌}
use Rattle.address.specs.Layout.{config_space_size}
use Rattle.address.proofs.Accesses.{access_is}
use Rattle.bus.proofs.read_access.absent_read.Goals as goal

pub ones-requires : goal.ones-requires
ones-requires c =
    let r = access_is config_space_size _ _ _ _ (sym c.check.ensures ∙ c.in_ok-access.was) in
    rw r.2 r.0.known
