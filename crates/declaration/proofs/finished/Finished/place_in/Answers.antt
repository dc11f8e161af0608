use Prim.Native.Nat.{◌≤◌, ◌<◌}
use mathlib.Core.Path.{◌≡◌, sym, subst}
use native.Mathlib.Omega.{arith}
use borrow.Author.Count.{below_more}
use borrow.Author.Rules.{rules}
use borrow.Author.Tests.{lt-ltb, le-ltb}
use lib.ListN.{length}
use Rattle.address.specs.Limits.{function_room}
use Rattle.word.proofs.Mapped.{long_unmapped}
use Rattle.word.proofs.Tables.{get_or_inside}
use Rattle.word.proofs.Searches.{least_at, least_none}
use Rattle.config.specs.declared.function.Function.{Function}
use Rattle.declaration.specs.Blank.{no_function}
use Rattle.declaration.proofs.finished.Finished.place_in.Goals as goal
use Rattle.declaration.proofs.finished.Finished.place_in.Goals.{Start}

long : (c : Start) → length c.args.self.functions ≡ function_room
long c = search (rules, long_unmapped)

pub returns-then-device-function : goal.returns-then-device-function
returns-then-device-function c =
    let a = c.args in
    let l = c.loop-k in
    let h : l.k < length a.self.functions = omega (arith, long (goal.at.returns-then-device-function c).Start) in
    sym (least_at _ _ _ c.loop-k-test.true (lt-ltb _ _ (subst (λ (x : Function). a.device < x.device) (get_or_inside a.self.functions l.k _ no_function h) c.if-device-function.true)) l.invariant)

pub loop-k-preserved : goal.loop-k-preserved
loop-k-preserved c =
    let a = c.args in
    let l = c.loop-k in
    let h : l.k < length a.self.functions = omega (arith, long (goal.at.loop-k-preserved c).Start) in
    below_more _ _ l.invariant (le-ltb _ _ (subst (λ (x : Function). x.device ≤ a.device) (get_or_inside a.self.functions l.k _ no_function h) c.if-device-function.false))

pub returns : goal.returns
returns c =
    let e : c.loop-k.k ≡ c.args.self.count = omega arith in
    sym (least_none _ _ (rw e at c.loop-k.invariant))
