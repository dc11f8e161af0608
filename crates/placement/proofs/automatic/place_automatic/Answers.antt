use Prim.Native.Nat.{◌+◌}
use mathlib.Core.Path.{sym, ◌∙◌}
use native.Mathlib.Numerals.{add-one}
use native.Mathlib.Omega.{arith}
use Rattle.std.proofs.lemmas.Result.{err_from_is_err_and}
use Rattle.placement.specs.Keys.{key_count}
use Rattle.placement.specs.Passes.{auto_after}
use Rattle.placement.proofs.Steps.{auto_stays}
use Rattle.placement.proofs.automatic.place_automatic.Goals as goal

pub returns-in_err-placed : goal.returns-in_err-placed
unfolding auto_after
returns-in_err-placed c =
    let a = c.args in
    let p = err_from_is_err_and c.from_residual.result c.from_residual.ensures.1 in
    rw (p.1, p.2) (sym (auto_stays a.aperture a.bars _ a.placed (c.loop-turn._turn + 1) key_count (omega arith) (rw (add-one, ← c.loop-turn.invariant) (sym c.automatic_step.ensures ∙ c.in_err-placed.was))))
