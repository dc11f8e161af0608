use Prim.Native.Nat.{◌<◌, min}
use mathlib.Core.Path.{◌≡◌, ap, ◌∙◌}
use borrow.Author.Rules.{rules}
use native.Mathlib.Omega.{arith}
use lib.ListN.{length}
use Rattle.address.specs.Limits.{function_room}
use Rattle.config.specs.declared.function.Function.{Function}
use Rattle.word.proofs.Mapped.{long_unmapped}
use Rattle.word.proofs.Tables.{blank_filled, filled_more, get_or_inside}
use Rattle.declaration.specs.Blank.{no_function}
use Rattle.bus.specs.Start.{declared_function, devices_of}
use Rattle.bus.proofs.Fills.{filled_cut}
use Rattle.bus.proofs.power_up.devices_of.Goals as goal
use Rattle.bus.proofs.power_up.devices_of.Goals.{Start}

long : (c : Start) → length c.args.declaration.functions ≡ function_room
long c = search (rules, long_unmapped)

pub loop-k-init : goal.loop-k-init
loop-k-init c = blank_filled function_room (λ j. (declared_function c.args.declaration j).device) 0

pub loop-k-preserved : goal.loop-k-preserved
loop-k-preserved c =
    let l = c.loop-k in
    let d = c.args.declaration in
    let m : l.k < function_room = omega (arith, c.at_most-count.ensures) in
    let h : l.k < length d.functions = omega (arith, long (goal.at.loop-k-preserved c).Start) in
    rw l.invariant (filled_more function_room (λ j. (declared_function d j).device) 0 l.k _ m (ap (λ (f : Function). f.device) (get_or_inside d.functions l.k _ no_function h)))

pub returns : goal.returns
unfolding devices_of
returns c =
    let l = c.loop-k in
    let d = c.args.declaration in
    let e : l.k ≡ min d.count function_room = omega (arith, c.at_most-count.ensures) in
    l.invariant ∙ rw e (filled_cut function_room d.count (λ j. (declared_function d j).device) 0)
