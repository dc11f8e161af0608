use Prim.Native.Nat.{◌<◌, min}
use mathlib.Core.Path.{◌≡◌, ap, ◌∙◌}
use borrow.Author.Rules.{rules}
use native.Mathlib.Omega.{arith}
use lib.ListN.{length}
use Rattle.address.specs.Limits.{function_room}
use Rattle.config.specs.declared.function.Function.{Function}
use Rattle.word.proofs.Mapped.{long_unmapped}
use Rattle.word.proofs.Tables.{blank_filled, filled_more, get_or_inside}
use Rattle.declaration.specs.Blank.{no_function}
use Rattle.bus.specs.Bus.{no_function_state}
use Rattle.bus.specs.Start.{declared_function, function_start, functions_of}
use Rattle.bus.proofs.Fills.{filled_cut}
use Rattle.bus.proofs.power_up.functions_of.Goals as goal
use Rattle.bus.proofs.power_up.functions_of.Goals.{Start}

long : (c : Start) → length c.args.declaration.functions ≡ function_room
long c = search (rules, long_unmapped)

pub loop-k-init : goal.loop-k-init
loop-k-init c =
    let a = c.args in
    rw c.no_function_state-none.ensures (blank_filled function_room (λ j. function_start (declared_function a.declaration j) a.addresses j) no_function_state)

pub loop-k-preserved : goal.loop-k-preserved
loop-k-preserved c =
    let l = c.loop-k in
    let a = c.args in
    let d = a.declaration in
    let m : l.k < function_room = omega (arith, c.at_most-count.ensures) in
    let h : l.k < length d.functions = omega (arith, long (goal.at.loop-k-preserved c).Start) in
    rw l.invariant
    (filled_more function_room (λ j. function_start (declared_function d j) a.addresses j) no_function_state l.k c.function_start.result m
    (c.function_start.ensures ∙ ap (λ (f : Function). function_start f a.addresses l.k) (get_or_inside d.functions l.k _ no_function h)))

pub returns : goal.returns
unfolding functions_of
returns c =
    let l = c.loop-k in
    let a = c.args in
    let e : l.k ≡ min a.declaration.count function_room = omega (arith, c.at_most-count.ensures) in
    l.invariant ∙ rw e (filled_cut function_room a.declaration.count (λ j. function_start (declared_function a.declaration j) a.addresses j) no_function_state)
