-- `stored_byte` goes by the places that the store covers and that the mask has.
use mathlib.Core.Logic.{inl, inr}
use mathlib.Core.Path.{sym, ◌∙◌}
use native.Mathlib.Omega.{arith}
use lib.ListN.{get_or-eq_default}
use Rattle.word.proofs.Stores.{stored_past, stored_out, stored_in_lem, stored_unmasked}
use Rattle.word.proofs.masked.stored_byte.Goals as goal

pub returns-then-live-j : goal.returns-then-live-j
returns-then-live-j c = sym (stored_past _ _ _ _ _ _ c.if-live-j.true)

pub returns-then-j-offset : goal.returns-then-j-offset
returns-then-j-offset c = sym (stored_out _ _ _ _ _ _ c.if-live-j.false (inl c.if-j-offset.true))

pub returns-then-width-j : goal.returns-then-width-j
returns-then-width-j c = sym (stored_out _ _ _ _ _ _ c.if-live-j.false (inr (omega arith)))

pub returns-then-mask-j : goal.returns-then-mask-j
returns-then-mask-j c = let a = c.args in
    sym (stored_unmasked a.mask.now a.live.now a.offset a.width a.value a.j (omega arith) (c.shared_slice_known-then-mask-j-1.given a.j).fits (get_or-eq_default a.mask.now 0 c.if-mask-j.true))

pub returns : goal.returns
returns c = let a = c.args in
    c.blended.ensures ∙ rw c.byte_of.ensures (sym (stored_in_lem a.mask.now a.live.now a.offset a.width a.value a.j (omega arith) (omega arith) (omega arith)))
