-- `place`: what is laid out ends in the space, so it starts there.
use native.Mathlib.Omega.{arith}
use borrow.Author.Rules.{rules}
use Rattle.capability.proofs.Rulings.{placed_fine}
use Rattle.capability.proofs.placing.place.Goals as goal

pub place_capabilities-capabilities-requires : goal.place_capabilities-capabilities-requires
place_capabilities-capabilities-requires c =
    let a = c.args in
    (search rules, λ k h. omega (arith, (placed_fine a.space a.declared c.requires k (omega arith)).inside))
