use Prim.Native.Nat.{◌+◌}
use mathlib.Core.Path.{◌≡◌, sym, ◌∙◌}
use native.Mathlib.Numerals.{add-one}
use native.Mathlib.Omega.{arith}
use Rattle.std.proofs.lemmas.Result.{err_from_is_err_and}
use Rattle.placement.specs.Keys.{key_count}
use Rattle.placement.specs.Passes.{fixed_after}
use Rattle.placement.proofs.Steps.{fixed_stays}
use Rattle.placement.proofs.fixed.place_fixed.Goals as goal

pub returns-in_err-placed : goal.returns-in_err-placed
unfolding fixed_after
returns-in_err-placed c =
    let a = c.args in
    let p = err_from_is_err_and c.from_residual.result c.from_residual.ensures.1 in
    rw (p.1, p.2) (sym (fixed_stays a.aperture a.bars _ (c.loop-key.key + 1) key_count (omega arith) (rw (add-one, ← c.loop-key.invariant) (sym c.fixed_step.ensures ∙ c.in_err-placed.was))))

pub returns : goal.returns
returns c = let e : c.loop-key.key ≡ key_count = omega arith in rw (← e) c.loop-key.invariant
