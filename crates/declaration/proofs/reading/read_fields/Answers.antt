use Prim.Native.Nat.{suc, ◌+◌}
use mathlib.Core.Path.{◌≡◌, sym, ap, ◌∙◌}
use native.Mathlib.Omega.{arith}
use Rattle.std.specs.Prelude.{None, Ok}
use Rattle.word.specs.Number.{part_of}
use Rattle.address.specs.Limits.{limits}
use Rattle.declaration.specs.Frame.{frame_of}
use Rattle.declaration.specs.Take.{taken_of}
use Rattle.declaration.specs.Reading.{reading}
use Rattle.declaration.specs.declared.finished.Finished.{Finished}
use Rattle.declaration.proofs.Turns.{nothing_read, stopped, ended, onward, turn_cut, turn_refused, turn_same, turn_new, field_framed}
use Rattle.declaration.proofs.reading.read_fields.Goals as goal
use Rattle.declaration.proofs.reading.read_fields.Goals.{After-take_field, Start, then-next-now, else-next-now}

-- the field that is framed, and what taking it gives
framed : (c : After-take_field) → frame_of c.args.file.now c.loop-at.at ≡ Ok c.in-Ok.field
framed c = sym c.frame_at.ensures ∙ c.in-Ok.is

taken : (c : After-take_field) → let f = c.in-Ok.field in c.take_field.result ≡ taken_of limits c.loop-at.now f.tag (part_of c.args.file.now f.start f.length)
taken c = rw (← c.part-body.ensures) c.take_field.ensures

pub loop-at-init : goal.loop-at-init
loop-at-init c = (0, rw (c.new-now.ensures, c.new-finished.ensures) (nothing_read limits _))

pub returns-in-Err : goal.returns-in-Err
returns-in-Err c =
    let a = c.args in
    let l = c.loop-at in
    stopped limits a.file.now l.at l.now l.finished l.invariant.0 _ l.invariant.1 (turn_cut limits a.file.now l.at l.now l.finished _ c.loop-at-test.true (sym c.frame_at.ensures ∙ c.in-Err.is))

pub returns-in-Err-take_field : goal.returns-in-Err-take_field
returns-in-Err-take_field c =
    let a = c.args in
    let l = c.loop-at in
    let h = (goal.at.returns-in-Err-take_field c).After-take_field in
    stopped limits a.file.now l.at l.now l.finished l.invariant.0 _ l.invariant.1 (turn_refused limits a.file.now l.at l.now l.finished c.in-Ok.field c.loop-at-test.true (framed h) _ (sym (taken h) ∙ c.in-Err-take_field.is))

pub overflow_add-at : goal.overflow_add-at
overflow_add-at c =
    let f = field_framed c.args.file.now c.loop-at.at c.in-Ok.field (framed (goal.at.overflow_add-at c).After-take_field) in
    record { fits = omega (arith, f.inside) }

pub loop-at-smaller : goal.loop-at-smaller
loop-at-smaller c =
    let f = field_framed c.args.file.now c.loop-at.at c.in-Ok.field (framed (goal.at.loop-at-smaller c).After-take_field) in
    omega (arith, f.behind, f.inside, c.loop-at-test.true)

pub loop-at-preserved : goal.loop-at-preserved
loop-at-preserved c =
    let a = c.args in
    let l = c.loop-at in
    let h = (goal.at.loop-at-preserved c).After-take_field in
    let field = c.in-Ok.field in
    let now = c.in-Ok-take_field.next in
    let next = field.start + field.length in
    let e = sym (taken h) ∙ c.in-Ok-take_field.is in (
      suc l.invariant.0,
      elim c.if-next-now.branch [
        | then-next-now w ↦ onward limits a.file.now l.at l.now l.finished next now c.if-next-now.finished l.invariant.0 l.invariant.1
            (turn_new limits a.file.now l.at l.now l.finished field c.loop-at-test.true (framed h) now e w.if-next-now.true ∙ ap (λ (f : Finished). reading None next now f) (sym w.with_latest-finished.ensures ∙ sym w.finished-is))
        | else-next-now w ↦ onward limits a.file.now l.at l.now l.finished next now c.if-next-now.finished l.invariant.0 l.invariant.1
            (turn_same limits a.file.now l.at l.now l.finished field c.loop-at-test.true (framed h) now e w.if-next-now.false ∙ ap (λ (f : Finished). reading None next now f) (sym w.finished-is))
      ],
    )

pub returns : goal.returns
returns c =
    let a = c.args in
    let l = c.loop-at in
    ended limits a.file.now l.at l.now l.finished l.invariant.0 l.invariant.1 c.loop-at-test.false
