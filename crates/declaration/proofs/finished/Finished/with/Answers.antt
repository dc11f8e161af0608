-- `with`: the function in its place, where there is room for one more.
use native.Mathlib.Omega.{arith}
use lib.Dec.{ltb}
use Rattle.word.proofs.Searches.{least_is}
use Rattle.declaration.specs.Finished.{function_at}
use Rattle.declaration.proofs.finished.Finished.with.Goals as goal

pub opened_at-requires : goal.opened_at-requires
opened_at-requires c = let s = c.args.self in
    let d = c.args.function.device in
    let m = (least_is (λ k. ltb d (function_at s k).device) s.count).most in
    omega (arith, c.place_in-place.ensures, m, c.if-n-ge-FUNCTION_LIMIT.false)
