-- `merged` is the store under four masks of ones.
use mathlib.Core.Path.{◌≡◌, ap, ◌∙◌}
use Rattle.word.specs.Number.{number, merge}
use Rattle.word.proofs.Merges.{le_four, stored_merge, merge_lt}
use Rattle.word.proofs.number.merged.Goals as goal
use Rattle.word.proofs.number.merged.Goals.{After-spelt}

result : (c : After-spelt) → let a = c.args in c.spelt.result ≡ merge a.dword a.lane a.width a.value
result c = let a = c.args in
    c.spelt.ensures ∙ ap number (rw (c.to_le_bytes-bytes.ensures ∙ le_four a.dword) at c.store.ensures) ∙ stored_merge a.dword a.lane a.width a.value

pub overflow_cast-result : goal.overflow_cast-result
overflow_cast-result c = let a = c.args in record { fits = rw (result (goal.at.overflow_cast-result c).After-spelt) (merge_lt a.dword a.lane a.width a.value) }

pub returns : goal.returns
returns c = result (goal.at.returns c).After-spelt
