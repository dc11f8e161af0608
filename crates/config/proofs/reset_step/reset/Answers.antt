-- `reset` restores everything, then counts where there is a count left.
use Prim.Native.Nat.{◌<◌}
use native.Mathlib.Omega.{arith}
use Rattle.config.specs.Command.{largest_revision}
use mathlib.Core.Path.{sym}
use Rattle.config.proofs.Resets.{reset_exhausted, reset_restored}
use Rattle.config.proofs.reset_step.reset.Goals as goal

pub returns-then-n : goal.returns-then-n
returns-then-n c = rw c.reset_bars-fresh.ensures (sym (reset_exhausted _ c.if-n.true))

pub returns : goal.returns
returns c =
    let f = c.args.state in
    let h : f.revision < largest_revision = omega arith in
    rw c.reset_bars-fresh.ensures (sym (reset_restored f h))
