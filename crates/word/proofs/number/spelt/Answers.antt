use Prim.Native.Nat.{◌-◌}
use mathlib.Core.Path.{sym}
use native.Mathlib.Omega.{arith}
use lib.Seq.{drop-length}
use Rattle.word.specs.Number.{number}
use Rattle.word.proofs.Numbers.{number_more, number_drop_lt}
use Rattle.word.proofs.number.spelt.Goals as goal

pub loop-i-init : goal.loop-i-init
unfolding number
loop-i-init c = (omega arith, let e = drop-length c.args.bytes.now in rw e)

pub overflow_mul-n : goal.overflow_mul-n
overflow_mul-n c =
    let l = c.loop-i in
    omega (arith, l.invariant.1, number_drop_lt c.args.bytes.now l.i (λ k. (c.type_inv.bytes k).fits) c.requires (omega arith))

pub overflow_add-n : goal.overflow_add-n
overflow_add-n c =
    let l = c.loop-i in
    omega (arith, l.invariant.1, c.from.ensures, c.type_inv.bytes (l.i - 1), number_drop_lt c.args.bytes.now l.i (λ k. (c.type_inv.bytes k).fits) c.requires (omega arith))

pub loop-i-preserved : goal.loop-i-preserved
loop-i-preserved c =
    let l = c.loop-i in
    let b = c.args.bytes.now in
    (omega arith, rw (c.from.ensures, l.invariant.1) (sym (number_more b (l.i - 1) l.i (omega arith) (omega arith))))
