-- `take_aperture`: an aperture comes once, and is good.
use mathlib.Core.List.{[]}
use mathlib.Core.Path.{sym, ◌∙◌}
use borrow.Author.Rules.{rules}
use Rattle.address.specs.Limits.{limits}
use Rattle.bar.proofs.Ranges.{aperture_is}
use Rattle.declaration.proofs.Takings.{aperture_not_taken, aperture_taken}
use Rattle.declaration.proofs.so_far.SoFar.take_aperture.Goals as goal

pub returns-in_err-aperture : goal.returns-in_err-aperture
returns-in_err-aperture c =
    let a = c.args in
    rw (aperture_not_taken limits a.self a.start a.end [] (sym c.is_some.ensures ∙ c.if-is_some.false) _ (sym c.new.ensures ∙ c.in_err-aperture.was)) (search rules)

pub returns : goal.returns
returns c =
    let a = c.args in
    let e = sym c.new.ensures ∙ c.in_ok-aperture.was in
    rw ((aperture_is _ _ _ _ e).0) (sym (aperture_taken limits a.self a.start a.end [] (sym c.is_some.ensures ∙ c.if-is_some.false) _ e))
