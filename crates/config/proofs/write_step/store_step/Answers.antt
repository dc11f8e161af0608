-- `store_step` is the leaf on copies of the state's arrays.
use mathlib.Core.Path.{sym, ◌∙◌}
use borrow.Author.Tests.{not-true, not-false}
use Rattle.config.proofs.Writing.{store_kept, store_exhausted}
use Rattle.config.proofs.write_step.store_step.Goals as goal

pub returns-then-kept : goal.returns-then-kept
returns-then-kept c = let k = c.store_live-kept in
    c.did.ensures ∙ rw (k.ensures.1, k.ensures.2, c.if-kept.true) (sym (store_kept _ _ _ _ (not-true _ (sym k.ensures.0 ∙ c.if-kept.true))))

pub returns : goal.returns
returns c = let k = c.store_live-kept in
    c.refused.ensures ∙ sym (store_exhausted _ _ _ _ (not-false _ (sym k.ensures.0 ∙ c.if-kept.false)))
