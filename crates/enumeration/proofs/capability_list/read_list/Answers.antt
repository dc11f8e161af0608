-- `read_list` goes by the bit of status.
use mathlib.Core.Path.{◌∙◌}
use Rattle.enumeration.proofs.Lists.{blank_array, read_none, read_some}
use Rattle.enumeration.proofs.capability_list.read_list.Goals as goal

pub returns-then-status-eq0 : goal.returns-then-status-eq0
returns-then-status-eq0 c =
    let a = c.args in
    let e = read_none a.bus a.device _ c.ask_word-status.ensures c.if-status-eq0.true in
    (c.no_list.ensures ∙ rw e blank_array, rw e)

pub returns : goal.returns
returns c =
    let a = c.args in
    let e = read_some a.bus a.device _ c.ask_word-status.ensures c.if-status-eq0.false in
    let l = rw c.ask_byte.ensures at c.list_from.ensures in
    rw e l
