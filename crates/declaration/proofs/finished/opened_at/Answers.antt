use Prim.Native.Nat.{◌<◌, ◌-◌}
use mathlib.Core.Path.{◌≡◌}
use native.Mathlib.Omega.{arith}
use borrow.Author.Rules.{rules}
use lib.ListN.{length}
use Rattle.address.specs.Limits.{function_room}
use Rattle.word.proofs.Mapped.{long_unmapped}
use Rattle.word.proofs.Tables.{get_or_inside}
use Rattle.declaration.specs.Blank.{no_function}
use Rattle.declaration.proofs.Openings.{opened_place, opened_more, opened_all}
use Rattle.declaration.proofs.finished.opened_at.Goals as goal
use Rattle.declaration.proofs.finished.opened_at.Goals.{Start}

long : (c : Start) → length c.args.functions ≡ function_room
long c = search (rules, long_unmapped)

pub loop-k-init : goal.loop-k-init
loop-k-init c = let a = c.args in opened_place no_function a.functions a.place a.function (omega (arith, long (goal.at.loop-k-init c).Start))

pub loop-k-preserved : goal.loop-k-preserved
loop-k-preserved c =
    let l = c.loop-k in
    let a = c.args in
    let h : length a.functions ≡ function_room = long (goal.at.loop-k-preserved c).Start in
    let n : l.k - 1 < length a.functions = omega arith in
    rw l.invariant (opened_more no_function a.functions a.place a.function l.k _ (omega arith) (omega arith) (get_or_inside a.functions (l.k - 1) _ no_function n))

pub returns : goal.returns
returns c =
    let a = c.args in
    let h = long (goal.at.returns c).Start in
    let e : c.loop-k.k ≡ length a.functions = omega arith in
    rw (c.loop-k.invariant, e) (opened_all no_function a.functions a.place a.function)
