-- `take_field` refuses a body that says nothing.
use mathlib.Core.Path.{sym, ◌∙◌}
use borrow.Author.Rules.{rules}
use Rattle.address.specs.Limits.{limits}
use Rattle.declaration.proofs.Takings.{bad_taken}
use Rattle.declaration.proofs.take.take_field.Goals as goal

pub returns-in_err-start : goal.returns-in_err-start
returns-in_err-start c = let a = c.args in rw (bad_taken limits a.so_far a.tag a.body.now _ (sym c.say.ensures ∙ c.in_err-start.was)) (search rules)
