-- `read` finds the function, or there is none.
use Prim.Native.Nat.{◌<◌}
use mathlib.Core.Path.{◌≡◌, sym, ◌∙◌}
use native.Mathlib.Omega.{arith}
use Rattle.bus.proofs.Dispatch.{found_below, read_at_lem, read_past, function_there}
use lib.ListN.{length}
use Rattle.word.proofs.Mapped.{long_unmapped}
use Rattle.address.specs.Limits.{function_room}
use borrow.Author.Rules.{rules}
use Rattle.bus.proofs.read_access.read.Goals as goal
use Rattle.bus.proofs.read_access.read.Goals.{Start}

long : (c : Start) → length c.args.bus.functions ≡ function_room
long c = search (rules, long_unmapped)

pub offset_bounds-bus-k : goal.offset_bounds-bus-k
offset_bounds-bus-k c = omega (arith, found_below c.args.bus _ _ c.count_on-count.ensures c.in-Some.k (sym c.index_of.ensures ∙ c.in-Some.is))

pub bounds-bus-k : goal.bounds-bus-k
bounds-bus-k c = omega (arith, found_below c.args.bus _ _ c.count_on-count.ensures c.in-Some.k (sym c.index_of.ensures ∙ c.in-Some.is))

pub returns-in-Some : goal.returns-in-Some
returns-in-Some c =
    let b = c.args.bus in
    let e = sym c.index_of.ensures ∙ c.in-Some.is in
    let h : c.in-Some.k < function_room = omega (arith, found_below b _ _ c.count_on-count.ensures c.in-Some.k e) in
    c.read.ensures ∙ rw (function_there b c.in-Some.k (long (goal.at.returns-in-Some c).Start) h) (read_at_lem b _ _ c.count_on-count.ensures c.in-Some.k e _ _)

pub returns-in-None : goal.returns-in-None
returns-in-None c =
    c.absent_read.ensures ∙ read_past c.args.bus _ _ c.count_on-count.ensures (sym c.index_of.ensures ∙ c.in-None.is) _ _
