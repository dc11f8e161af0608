use mathlib.Core.Path.{◌≡◌, sym, ◌∙◌, ap}
use native.Mathlib.Omega.{arith}
use borrow.Author.Tests.{eq-eqb}
use lib.ListN.{get_or}
use Rattle.address.specs.Kinds.{index_of}
use Rattle.address.specs.declared.slot.Slot.{Slot}
use Rattle.bar.specs.Bar.{no_bar}
use Rattle.placement.proofs.Slots.{slot_first, slot_none}
use Rattle.placement.proofs.declared_bars.bar_in_slot.Goals as goal
use Rattle.placement.proofs.declared_bars.bar_in_slot.Goals.{After-index-at}

-- the slot that was read
stands : (c : After-index-at) → c.index-at.result ≡ index_of (get_or c.args.function.bars c.loop-i.i no_bar).slot
stands c = c.index-at.ensures ∙ ap (λ (s : Slot). index_of s) c.slot.ensures

pub returns-then-at-slot : goal.returns-then-at-slot
returns-then-at-slot c =
    let a = c.args in
    sym (slot_first a.function a.slot c.loop-i.i (omega (arith, c.bars_in-i-end.ensures)) (eq-eqb _ _ (sym (stands (goal.at.returns-then-at-slot c).After-index-at) ∙ c.if-at-slot.true)) c.loop-i.invariant)

pub returns : goal.returns
returns c =
    let a = c.args in
    c.none.ensures ∙ sym (slot_none a.function a.slot (λ k h. c.loop-i.invariant k (omega (arith, c.bars_in-i-end.ensures))))
