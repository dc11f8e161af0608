use borrow.Author.Rules.{rules}
use Rattle.address.specs.Layout.{bar_count}
use Rattle.bar.specs.Bar.{no_bar}
use Rattle.word.proofs.Tables.{table_by}
use Rattle.harness.specs.Places.{bar_in, slots_in}
use Rattle.harness.proofs.places.bars_in.Goals as goal

pub returns : goal.returns
unfolding slots_in
returns c =
    let h = c.from_fn.ensures.items in
    let a = c.args in
    table_by bar_count (bar_in a.request a.function) no_bar c.from_fn.result h.long (λ i l. let e = h.at i no_bar l in search rules)
