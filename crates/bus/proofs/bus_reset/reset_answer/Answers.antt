use mathlib.Core.Path.{◌≡◌, sym}
use native.Mathlib.Omega.{arith}
use lib.ListN.{length}
use Rattle.word.proofs.Mapped.{long_unmapped}
use Rattle.address.specs.Limits.{function_room}
use borrow.Author.Rules.{rules}
use borrow.Author.Tests.{eq-eqb, ne_eqb}
use Rattle.word.proofs.Searches.{any_none, any_more, any_never, first_is, first_none}
use Rattle.bus.specs.Bus.{count_on, device_at}
use Rattle.bus.specs.Reset.{spent_at, exhausted_by}
use Rattle.std.proofs.Common.{Ok}
use Rattle.bus.proofs.Dispatch.{function_there}
use Rattle.bus.proofs.bus_reset.reset_answer.Goals as goal
use Rattle.bus.proofs.bus_reset.reset_answer.Goals.{Start}

long : (c : Start) → length c.args.bus.functions ≡ function_room
long c = search (rules, long_unmapped)

pub loop-k-init : goal.loop-k-init
loop-k-init c = any_none (spent_at c.args.bus)

pub returns-then-function : goal.returns-then-function
returns-then-function c =
    let l = c.loop-k in
    let b = c.args.bus in
    sym (first_is (λ k. exhausted_by (device_at b k)) (Ok tt) (spent_at b) (count_on b) l.k (record { below = omega (arith, c.count_on-count.ensures); before = any_never (spent_at b) l.k l.invariant; here = eq-eqb _ _ (rw (function_there b l.k (long (goal.at.returns-then-function c).Start) (omega (arith, c.count_on-count.ensures))) at c.if-function.true) }))

pub loop-k-preserved : goal.loop-k-preserved
loop-k-preserved c =
    let l = c.loop-k in
    let b = c.args.bus in
    any_more (spent_at b) l.k l.invariant (ne_eqb _ _ (rw (function_there b l.k (long (goal.at.loop-k-preserved c).Start) (omega (arith, c.count_on-count.ensures))) at c.if-function.false))

pub returns : goal.returns
returns c =
    let l = c.loop-k in
    let b = c.args.bus in
    let e : l.k ≡ count_on b = omega (arith, c.count_on-count.ensures) in
    sym (first_none (λ k. exhausted_by (device_at b k)) (Ok tt) (spent_at b) (count_on b) (any_never (spent_at b) (count_on b) (rw e at l.invariant)))
