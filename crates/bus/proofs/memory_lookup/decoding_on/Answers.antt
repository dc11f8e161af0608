use mathlib.Core.Bool.{false}
use borrow.Author.Rules.{rules}
use Rattle.word.proofs.Tables.{table_by}
use Rattle.address.specs.Limits.{function_room}
use Rattle.bus.specs.Bus.{no_function_state, function_at}
use Rattle.bus.specs.Lookup.{decodes, decoding_on}
use Rattle.bus.proofs.memory_lookup.decoding_on.Goals as goal

pub returns : goal.returns
unfolding decoding_on
returns c =
    let h = c.map.ensures.items in
    table_by function_room (λ k. decodes (function_at c.args.bus k)) false c.map.result h.long (λ k l. let e = h.at k no_function_state false l in search rules)
