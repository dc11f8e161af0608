use mathlib.Core.Path.{sym, ◌∙◌}
use native.Mathlib.Omega.{arith}
use Rattle.std.proofs.Common.{◌≡◌, true}
use Rattle.word.specs.Width.{width_ok}
use Rattle.word.proofs.Widths.{width_pos}
use Rattle.address.specs.Check.{most_width}
use Rattle.address.proofs.Offsets.{offset_is, offset_none}
use Rattle.address.proofs.Accesses.{access_good, refused_width, refused_offset, refused_multiple}
use Rattle.address.proofs.access.check.Goals as goal
use Rattle.address.proofs.access.check.Goals.{Else-not-width_ok}

known : (c : Else-not-width_ok) → width_ok most_width c.args.width ≡ true
known c = sym c.width_ok.ensures ∙ c.if-not-width_ok.false

pub returns-then-not-width_ok : goal.returns-then-not-width_ok
returns-then-not-width_ok c = sym (refused_width _ _ _ (sym c.width_ok.ensures ∙ c.if-not-width_ok.true))

pub nonzero_rem-offset : goal.nonzero_rem-offset
nonzero_rem-offset c = width_pos most_width _ (known (goal.at.nonzero_rem-offset c).Else-not-width_ok)

pub returns-in-Some : goal.returns-in-Some
returns-in-Some c =
    let r = offset_is c.args.space c.args.offset c.in-Some.at (sym c.new.ensures ∙ c.in-Some.is) in
    rw r.0 (sym (access_good _ _ _ (record { known = known (goal.at.returns-in-Some c).Else-not-width_ok; below = r.1; multiple = omega arith })))

pub returns-in_default : goal.returns-in_default
returns-in_default c = sym (refused_multiple _ _ _ (omega arith))

pub returns-in_default-2 : goal.returns-in_default-2
returns-in_default-2 c = sym (refused_offset _ _ _ (offset_none _ _ (sym c.new.ensures ∙ c.in_default.is)))
