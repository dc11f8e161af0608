use borrow.Author.Rules.{rules}
use Rattle.address.specs.Layout.{bar_count}
use Rattle.bar.specs.State.{no_state, fresh}
use Rattle.word.proofs.Tables.{table_by}
use Rattle.bus.specs.Start.{plan_at, bars_placed}
use Rattle.bus.proofs.power_up.bars_placed.Goals as goal

pub returns : goal.returns
unfolding bars_placed
returns c =
    let h = c.from_fn.ensures.items in
    let a = c.args in
    table_by bar_count (λ i. fresh (plan_at a.function a.addresses a.k i)) no_state c.from_fn.result h.long (λ i l. let e = h.at i no_state l in search rules)
