-- `accepted_at` asks whether the address is a place, given the others.
use mathlib.Core.Path.{◌≡◌, ◌∙◌}
use Rattle.bus.specs.Access.{accepts}
use lib.ListN.{length}
use Rattle.word.proofs.Mapped.{long_unmapped}
use Rattle.address.specs.Limits.{function_room}
use native.Mathlib.Omega.{arith}
use borrow.Author.Rules.{rules}
use Rattle.bus.proofs.Dispatch.{function_there}
use Rattle.bus.proofs.ranges.accepted_at.Goals as goal
use Rattle.bus.proofs.ranges.accepted_at.Goals.{Start}

long : (c : Start) → length c.args.bus.functions ≡ function_room
long c = search (rules, long_unmapped)

pub returns : goal.returns
unfolding accepts
returns c =
    c.is_place.ensures ∙ rw (c.ranges_but-others.ensures, function_there c.args.bus c.args.k (long (goal.at.returns c).Start) (omega arith))
