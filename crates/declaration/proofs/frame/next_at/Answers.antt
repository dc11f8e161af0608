-- `next_at` ends where the frame does, which is in the file.
use mathlib.Core.Path.{sym, ◌∙◌}
use native.Mathlib.Omega.{arith}
use Rattle.declaration.proofs.Turns.{field_framed}
use Rattle.declaration.proofs.frame.next_at.Goals as goal

pub overflow_add-result : goal.overflow_add-result
overflow_add-result c =
    let f = field_framed c.args.file.now c.args.at c.in-Ok.field (sym c.frame_at.ensures ∙ c.in-Ok.is) in
    record { fits = omega (arith, f.inside) }
