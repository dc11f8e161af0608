-- `device_used` is the library's `contains`.
use mathlib.Core.Path.{◌≡◌, ◌∙◌}
use native.Mathlib.Omega.{arith}
use borrow.Author.Rules.{rules}
use lib.Dec.{eqb}
use lib.ListN.{length}
use Rattle.word.proofs.Listed.{any_taken}
use Rattle.word.proofs.Mapped.{long_unmapped}
use Rattle.address.specs.Limits.{function_room}
use Rattle.declaration.specs.Standing.{device_used}
use Rattle.declaration.proofs.so_far.SoFar.device_used.Goals as goal

pub returns : goal.returns
unfolding device_used
returns c =
    let a = c.args in
    let long : length a.self.devices ≡ function_room = search (rules, long_unmapped) in
    c.contains.ensures.value ∙ any_taken (λ x. eqb x a.device) 0 a.self.devices a.self.count (omega arith)
