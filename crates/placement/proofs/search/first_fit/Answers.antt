use mathlib.Core.Path.{◌≡◌, sym, ◌∙◌}
use borrow.Author.Rules.{rules}
use mir.Val.{Fits}
use mir.Syntax.{w64}
use Rattle.std.specs.Prelude.{Some, None}
use Rattle.bar.specs.Range.{range, end_of}
use Rattle.placement.specs.Skip.{aligned_from, Clash}
use Rattle.placement.proofs.Turns.{Turn, turn_first, turn_nothing, turn_outside, turn_found, turn_past, left_falls}
use Rattle.placement.proofs.search.first_fit.Goals as goal
use Rattle.placement.proofs.search.first_fit.Goals.{In-Some}

pub returns-in_err-start : goal.returns-in_err-start
returns-in_err-start c =
    let a = c.args in
    let f : Fits w64 a.aperture.end = search rules in
    let e : aligned_from a.aperture.start a.size ≡ None = sym c.align_up.ensures ∙ c.in_err-start.was in
    rw c.from_residual.ensures (turn_nothing a.aperture a.size a.placed f.fits (rw e at (turn_first a.aperture a.size a.placed)))

pub loop-aperture-init : goal.loop-aperture-init
loop-aperture-init c =
    let a = c.args in
    let e : aligned_from a.aperture.start a.size ≡ Some c.in_ok-start.start = sym c.align_up.ensures ∙ c.in_ok-start.was in
    rw e at (turn_first a.aperture a.size a.placed)

pub returns-then-not-lies_in : goal.returns-then-not-lies_in
returns-then-not-lies_in c =
    let a = c.args in
    turn_outside a.aperture a.size a.placed _ c.loop-aperture.invariant (sym c.lies_in.ensures ∙ c.if-not-lies_in.true)

pub returns-in-None : goal.returns-in-None
returns-in-None c =
    let a = c.args in
    let start = c.loop-aperture.start in
    let free : Clash (range start a.size) a.placed None = rw c.in-None.is at c.conflict_with.ensures in
    turn_found a.aperture a.size a.placed start c.loop-aperture.invariant (sym c.lies_in.ensures ∙ c.if-not-lies_in.false) free

-- the range that the candidate meets
the_clash : (c : In-Some) → let a = c.args in Clash (range c.loop-aperture.start a.size) a.placed (Some c.in-Some.other)
the_clash c = rw c.in-Some.is at c.conflict_with.ensures

-- the turn past it
past : (c : In-Some) → let a = c.args in Turn a.aperture a.size a.placed (aligned_from (end_of c.in-Some.other) a.size)
past c =
    let a = c.args in
    let k = the_clash c in
    turn_past a.aperture a.size a.placed c.loop-aperture.start k.0 c.in-Some.other c.loop-aperture.invariant k.2 k.3

pub returns-in_err-start-in-Some : goal.returns-in_err-start-in-Some
returns-in_err-start-in-Some c =
    let a = c.args in
    let f : Fits w64 a.aperture.end = search rules in
    let e : aligned_from (end_of c.in-Some.other) a.size ≡ None = sym c.align_past.ensures ∙ c.in_err-start-in-Some.was in
    rw c.from_residual-in_err-start-in-Some.ensures (turn_nothing a.aperture a.size a.placed f.fits (rw e at (past (goal.at.returns-in_err-start-in-Some c).In-Some)))

pub loop-aperture-smaller : goal.loop-aperture-smaller
loop-aperture-smaller c =
    let a = c.args in
    let k = the_clash (goal.at.loop-aperture-smaller c).In-Some in
    left_falls a.placed c.loop-aperture.start a.size k.0 c.in-Some.other (Some c.in_ok-start-in-Some.start) k.1 k.2 k.3 (sym c.in_ok-start-in-Some.was ∙ c.align_past.ensures)

pub loop-aperture-preserved : goal.loop-aperture-preserved
loop-aperture-preserved c =
    let a = c.args in
    let e : aligned_from (end_of c.in-Some.other) a.size ≡ Some c.in_ok-start-in-Some.start = sym c.align_past.ensures ∙ c.in_ok-start-in-Some.was in
    rw e at (past (goal.at.loop-aperture-preserved c).In-Some)
