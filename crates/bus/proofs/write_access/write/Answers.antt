-- `write` finds the function and puts it back as the step left it, or there is none.
use mathlib.Core.Path.{sym, ◌∙◌}
use native.Mathlib.Omega.{arith}
use Rattle.bus.proofs.Dispatch.{found_below, write_at_lem, write_past}
use Rattle.bus.proofs.write_access.write.Goals as goal

pub write_on-step-requires : goal.write_on-step-requires
write_on-step-requires c = omega (arith, found_below c.args.bus _ _ c.count_on-count.ensures c.in-Some.k (sym c.index_of.ensures ∙ c.in-Some.is))

pub offset_bounds-out-k : goal.offset_bounds-out-k
offset_bounds-out-k c = omega (arith, found_below c.args.bus _ _ c.count_on-count.ensures c.in-Some.k (sym c.index_of.ensures ∙ c.in-Some.is))

pub bounds-out-k : goal.bounds-out-k
bounds-out-k c = omega (arith, found_below c.args.bus _ _ c.count_on-count.ensures c.in-Some.k (sym c.index_of.ensures ∙ c.in-Some.is))

pub returns-in-Some : goal.returns-in-Some
returns-in-Some c =
    c.write_on-step.ensures ∙ write_at_lem c.args.bus _ _ c.count_on-count.ensures c.in-Some.k (sym c.index_of.ensures ∙ c.in-Some.is) _ _ _

pub returns-in-None : goal.returns-in-None
returns-in-None c =
    c.absent_write.ensures ∙ write_past c.args.bus _ _ c.count_on-count.ensures (sym c.index_of.ensures ∙ c.in-None.is) _ _ _
