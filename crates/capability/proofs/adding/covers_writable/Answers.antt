-- `covers_writable` is the library's `any`.
use Prim.Native.Nat.{ℕ, ◌+◌}
use mathlib.Core.Bool.{not}
use mathlib.Core.Path.{refl, ◌∙◌}
use native.Mathlib.Omega.{arith}
use lib.Dec.{eqb}
use Rattle.std.proofs.Common.{rules, tests}
use Rattle.std.proofs.lemmas.Iterator.{YieldsList-from_range}
use Rattle.std.proofs.lemmas.Iterator.Search.{any_from_yields_List}
use Rattle.word.proofs.Listed.{any_range}
use Rattle.capability.specs.BadEffect.{mask_at, covers_writable}
use Rattle.capability.proofs.adding.covers_writable.Goals as goal

pub returns : goal.returns
unfolding covers_writable
returns c =
    let mask = c.args.mask.now in
    let effect = c.args.effect in
    let test = λ (i : ℕ). not (eqb (mask_at mask (effect.offset + i)) 0) in
    let h = any_from_yields_List test _ _ c.any.result c.any.ensures.ran (YieldsList-from_range 0 effect.length effect.length refl (omega arith)) (λ x b q k. search (rules, tests)) in
    h ∙ any_range test effect.length
