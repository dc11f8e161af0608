use Prim.Native.Nat.{◌+◌}
use mathlib.Core.Bool.{false}
use mathlib.Core.Path.{◌≡◌, sym, ap, ◌∙◌}
use native.Mathlib.Omega.{arith}
use borrow.Author.Count.{below_none, below_more}
use borrow.Author.Rules.{rules}
use Rattle.capability.specs.Size.{header_size}
use Rattle.capability.specs.Declaration.{length_at}
use Rattle.capability.specs.Offset.{next_multiple, end_at, capability_end}
use Rattle.capability.specs.Repeat.{repeats_at}
use Rattle.capability.proofs.Offsets.{next_near, offset_first, offset_next}
use Rattle.capability.proofs.Rulings.{rule_placed, rule_repeated, rule_past}
use Rattle.capability.proofs.layout.check_layout.Goals as goal
use Rattle.capability.proofs.layout.check_layout.Goals.{After-length_at-body}

pub loop-i-init : goal.loop-i-init
loop-i-init c = (search rules, sym (offset_first _), below_none _)

pub returns-then-repeated : goal.returns-then-repeated
returns-then-repeated c =
    let a = c.args in
    let l = c.loop-i in
    sym (rule_repeated a.space a.declared l.i (omega arith) l.invariant.2 (sym c.repeats_at-repeated.ensures ∙ c.if-repeated.true))

ends : (c : After-length_at-body) → let l = c.loop-i in l.start + header_size + c.length_at-body.result ≡ end_at (length_at c.args.declared) l.i
ends c = rw (c.loop-i.invariant.1, c.length_at-body.ensures)

distinct : (c : After-length_at-body) → repeats_at c.args.declared c.loop-i.i ≡ false
distinct c = sym c.repeats_at-repeated.ensures ∙ c.if-repeated.false

pub returns-then-space-start : goal.returns-then-space-start
returns-then-space-start c =
    let a = c.args in
    let l = c.loop-i in
    sym (rule_past a.space a.declared l.i (omega arith) l.invariant.2 (distinct (goal.at.returns-then-space-start c).After-length_at-body) (rw (← ends (goal.at.returns-then-space-start c).After-length_at-body) c.if-space-start.true))

pub loop-i-preserved : goal.loop-i-preserved
loop-i-preserved c =
    let d = c.args.declared in
    let l = c.loop-i in
    let e : c.next_offset-start.result ≡ next_multiple (end_at (length_at d) l.i) = c.next_offset-start.ensures ∙ ap next_multiple (ends (goal.at.loop-i-preserved c).After-length_at-body) in (
      omega (arith, c.next_offset-start.ensures, next_near (capability_end l.start c.length_at-body.result)),
      e ∙ sym (offset_next (length_at d) l.i),
      below_more _ _ l.invariant.2 (record { distinct = distinct (goal.at.loop-i-preserved c).After-length_at-body; inside = rw (← ends (goal.at.loop-i-preserved c).After-length_at-body) c.if-space-start.false }),
    )

pub returns : goal.returns
returns c =
    let a = c.args in
    let l = c.loop-i in
    sym (rule_placed a.space a.declared (λ j h. l.invariant.2 j (omega arith)))
