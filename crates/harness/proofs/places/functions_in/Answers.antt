use borrow.Author.Rules.{rules}
use Rattle.address.specs.Limits.{function_room}
use Rattle.word.proofs.Tables.{table_by}
use Rattle.harness.specs.Places.{function_in, functions_in}
use Rattle.harness.proofs.places.functions_in.Goals as goal

pub returns : goal.returns
unfolding functions_in
returns c =
    let h = c.from_fn.ensures.items in
    let n = c.args.request in
    table_by function_room (function_in n) (function_in n 0) c.from_fn.result h.long (λ i l. let e = h.at i (function_in n 0) l in search rules)
