use Prim.Native.Nat.{min}
use borrow.Author.Rules.{rules}
use lib.ListN.{get_or}
use Rattle.address.specs.Limits.{capability_room}
use Rattle.capability.specs.Size.{body_most}
use Rattle.capability.specs.Declaration.{capability, no_capability}
use Rattle.word.proofs.Tables.{table_by}
use Rattle.harness.specs.Lists.{capabilities_in}
use Rattle.harness.proofs.lists.capabilities_in.Goals as goal

pub returns : goal.returns
unfolding capabilities_in
returns c =
    let h = c.from_fn.ensures.items in
    let a = c.args in
    table_by capability_room (λ k. capability (get_or a.ids k 0) (min (get_or a.lengths k 0) body_most)) no_capability c.from_fn.result h.long (λ k l. let e = h.at k no_capability l in search rules)
