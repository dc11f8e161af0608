use borrow.Author.Rules.{rules}
use Rattle.word.proofs.Tables.{table_by}
use Rattle.address.specs.Limits.{function_room}
use Rattle.declaration.specs.Blank.{no_function}
use Rattle.bus.specs.Start.{declared_function, function_bars, declared_bars}
use Rattle.bus.proofs.power_up.declared_bars.Goals as goal

pub returns : goal.returns
unfolding declared_bars
returns c =
    let h = c.map.ensures.items in
    let d = c.args.declaration in
    rw (table_by function_room (λ k. function_bars (declared_function d k)) (function_bars no_function) c.map.result h.long (λ k l. let e = h.at k no_function (function_bars no_function) l in search rules))
