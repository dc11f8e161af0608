-- `take_effect` goes by the answer of the layer below.
use mathlib.Core.List.{[]}
use borrow.Author.Rules.{rules}
use Rattle.address.specs.Limits.{limits}
use Rattle.declaration.proofs.Adds.{effect_step}
use Rattle.declaration.proofs.so_far.SoFar.take_effect.Goals as goal

pub returns-in_err-with : goal.returns-in_err-with
returns-in_err-with c =
    let a = c.args in
    rw (effect_step limits a.self a.id a.offset a.length a.access [] c.if-self-eq0.false, ← c.add_effect.ensures, c.in_err-with.was) (search rules)

pub returns : goal.returns
returns c =
    let a = c.args in
    rw (c.with_function.ensures, effect_step limits a.self a.id a.offset a.length a.access [] c.if-self-eq0.false, ← c.add_effect.ensures, c.in_ok-with.was)
