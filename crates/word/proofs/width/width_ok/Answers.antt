-- `width_ok` tries the four widths.
use borrow.Author.Tests.{lt-leb, le-leb, ne_eqb}
use Rattle.word.specs.Width.{width_ok}
use Rattle.word.proofs.width.width_ok.Goals as goal

pub returns-then-most-width : goal.returns-then-most-width
unfolding width_ok
returns-then-most-width c = simp (lt-leb _ _ c.if-most-width.true)

pub returns-in-1 : goal.returns-in-1
unfolding width_ok
returns-in-1 c = rw (le-leb _ _ c.if-most-width.false, c.in-1.is)

pub returns-in-2 : goal.returns-in-2
unfolding width_ok
returns-in-2 c = rw (le-leb _ _ c.if-most-width.false, c.in-2.is)

pub returns-in-4 : goal.returns-in-4
unfolding width_ok
returns-in-4 c = rw (le-leb _ _ c.if-most-width.false, c.in-4.is)

pub returns-in-8 : goal.returns-in-8
unfolding width_ok
returns-in-8 c = rw (le-leb _ _ c.if-most-width.false, c.in-8.is)

pub returns-in_default : goal.returns-in_default
unfolding width_ok
returns-in_default c = let r = c.in_default.in_default-own.rest in simp (le-leb _ _ c.if-most-width.false, ne_eqb _ _ r.0.0.0.1, ne_eqb _ _ r.0.0.1, ne_eqb _ _ r.0.1, ne_eqb _ _ r.1)
