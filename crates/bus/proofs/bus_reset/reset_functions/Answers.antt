use mathlib.Core.Path.{◌≡◌, sym, ap, ◌∙◌}
use native.Mathlib.Omega.{arith}
use borrow.Author.Rules.{rules}
use lib.ListN.{length}
use Rattle.word.proofs.Mapped.{long_unmapped}
use Rattle.address.specs.Limits.{function_room}
use Rattle.config.specs.declared.reset_step.ResetDone.{ResetDone}
use Rattle.config.proofs.Resets.{reset_state}
use Rattle.bus.proofs.Restores.{reset_none, reset_more}
use Rattle.bus.proofs.bus_reset.reset_functions.Goals as goal
use Rattle.bus.proofs.bus_reset.reset_functions.Goals.{Start}

long : (c : Start) → length c.args.functions ≡ function_room
long c = search (rules, long_unmapped)

pub loop-k-init : goal.loop-k-init
loop-k-init c = sym (reset_none _)

pub loop-k-preserved : goal.loop-k-preserved
loop-k-preserved c =
    let l = c.loop-k in
    reset_more _ l.k l.out _ _ (omega (arith, long (goal.at.loop-k-preserved c).Start)) l.invariant (ap (λ (d : ResetDone). d.state) c.reset-done.ensures ∙ reset_state _)
