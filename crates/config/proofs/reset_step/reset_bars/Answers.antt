use borrow.Author.Rules.{rules}
use Rattle.word.proofs.Mapped.{map_by, long_unmapped}
use Rattle.address.specs.Layout.{bar_count}
use Rattle.bar.specs.State.{no_state, reset_of}
use Rattle.config.proofs.reset_step.reset_bars.Goals as goal

pub returns : goal.returns
returns c =
    let h = c.map.ensures.items in
    map_by reset_of no_state no_state bar_count c.args.bars c.map.result (search (rules, long_unmapped)) h.long (λ i l. let k = h.at i no_state no_state l in search rules)
