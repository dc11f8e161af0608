-- `store_live` stores at once where no watched bit changes, counts where one does, and stops where there is no count left.
use Rattle.word.specs.Store.{stored}
use Rattle.config.specs.Command.{watched}
use mathlib.Core.Path.{◌≡◌, refl, sym, ◌∙◌}
use Rattle.config.proofs.Commands.{same_revision, next_revision, same_not_exhausted, room_not_exhausted, is_exhausted}
use Rattle.config.proofs.store_leaf.store_live.Goals as goal
use Rattle.config.proofs.store_leaf.store_live.Goals.{After-command_after-new}

-- the two commands that are compared are those of the image and of the store
differs : (k : After-command_after-new) → (k.command_of-old.result ≡ k.command_after-new.result → ⊥) → let a = k.args in watched a.live.now ≡ watched (stored a.mask.now a.live.now a.offset a.width a.value) → ⊥
differs k h e = h (k.command_of-old.ensures ∙ e ∙ sym k.command_after-new.ensures)

pub returns-then-old-new : goal.returns-then-old-new
returns-then-old-new c =
    let e = sym c.command_of-old.ensures ∙ c.if-old-new.true ∙ c.command_after-new.ensures in
    (rw (same_not_exhausted _ _ _ e), c.store.ensures, sym (same_revision _ _ _ e))

pub returns-then-n : goal.returns-then-n
returns-then-n c =
    (rw (is_exhausted _ _ _ (differs (goal.at.returns-then-n c).After-command_after-new c.if-old-new.false) c.if-n.true), refl, refl)

pub returns : goal.returns
returns c =
    (rw (room_not_exhausted _ (stored _ _ _ _ _) _ c.if-n.false), c.store-2.ensures, sym (next_revision _ _ _ (differs (goal.at.returns c).After-command_after-new c.if-old-new.false)))
