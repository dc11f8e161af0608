-- `take_bar`: the checks of a BAR in their order; a good slot is its own place in the array.
use Prim.Native.Nat.{◌<◌}
use mathlib.Core.Path.{◌≡◌, sym, ap, ◌∙◌}
use borrow.Author.Rules.{rules}
use Rattle.std.specs.Prelude.{Ok}
use mathlib.Core.List.{[]}
use mathlib.Core.Bool.{false}
use Rattle.word.specs.Search.{all_below}
use Rattle.address.specs.Layout.{bar_count}
use Rattle.address.specs.Kinds.{slot, slot_of, index_of}
use Rattle.address.proofs.Slots.{slot_is, index_is}
use Rattle.address.specs.Limits.{limits}
use Rattle.bar.proofs.Sizes.{size_ok_lem, bar_is}
use Rattle.declaration.specs.Standing.{slot_used}
use Rattle.declaration.proofs.Takings.{bar_no_slot, bar_used, bar_bad_size, bar_taken}
use Rattle.declaration.proofs.so_far.SoFar.take_bar.Goals as goal
use Rattle.declaration.proofs.so_far.SoFar.take_bar.Goals.{After-index-i, Else-slots_used, Else-slot_used}

-- a slot is free; the number is a slot, and its place in the array; no BAR is there
free : (c : Else-slots_used) → all_below (slot_used c.args.self.function) bar_count ≡ false
free c = sym c.slots_used.ensures ∙ c.if-slots_used.false

made : (c : After-index-i) → slot_of c.args.slot ≡ Ok c.in_ok-at.at
made c = sym c.new.ensures ∙ c.in_ok-at.was

is_slot : (c : After-index-i) → c.in_ok-at.at ≡ slot c.args.slot
is_slot c = (slot_is _ _ (made c)).0

low : (c : After-index-i) → c.args.slot < bar_count
low c = (slot_is _ _ (made c)).1

place : (c : After-index-i) → c.index-i.result ≡ c.args.slot
place c = c.index-i.ensures ∙ ap index_of (is_slot c) ∙ index_is _ (low c)

unused : (c : Else-slot_used) → let a = c.args in slot_used a.self.function a.slot ≡ false
unused c = rw (← place c.before.before) (sym c.slot_used.ensures ∙ c.if-slot_used.false)

pub returns-in_err-at : goal.returns-in_err-at
returns-in_err-at c =
    let a = c.args in
    rw (bar_no_slot limits a.self a.slot a.size a.request [] c.if-self-eq0.false (free (goal.at.returns-in_err-at c).Else-slots_used) _ (sym c.new.ensures ∙ c.in_err-at.was)) (search rules)

pub returns-then-slot_used : goal.returns-then-slot_used
returns-then-slot_used c =
    let a = c.args in
    sym (bar_used limits a.self a.slot a.size a.request [] c.if-self-eq0.false (free (goal.at.returns-then-slot_used c).Else-slots_used) (low (goal.at.returns-then-slot_used c).After-index-i) (rw (← place (goal.at.returns-then-slot_used c).After-index-i) (sym c.slot_used.ensures ∙ c.if-slot_used.true)))

pub returns-in_err-bar : goal.returns-in_err-bar
returns-in_err-bar c =
    let a = c.args in
    rw (bar_bad_size limits a.self a.slot a.size a.request [] c.if-self-eq0.false (free (goal.at.returns-in_err-bar c).Else-slots_used) (low (goal.at.returns-in_err-bar c).After-index-i) (unused (goal.at.returns-in_err-bar c).Else-slot_used) _ _ (sym c.new-2.ensures ∙ c.in_err-bar.was)) (search rules)

pub returns : goal.returns
returns c =
    let a = c.args in
    let r = bar_is _ a.size a.request _ (sym c.new-2.ensures ∙ c.in_ok-bar.was) in
    rw (c.with_function.ensures, place (goal.at.returns c).After-index-i, r.0, is_slot (goal.at.returns c).After-index-i) (sym (bar_taken limits a.self a.slot a.size a.request [] c.if-self-eq0.false (free (goal.at.returns c).Else-slots_used) (low (goal.at.returns c).After-index-i) (unused (goal.at.returns c).Else-slot_used) (size_ok_lem a.size r.1)))
