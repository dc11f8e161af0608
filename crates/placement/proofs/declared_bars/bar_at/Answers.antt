-- `bar_at` asks the function of its key, if there is one.
use mathlib.Core.Path.{◌≡◌, sym, ◌∙◌}
use native.Mathlib.Omega.{arith}
use lib.ListN.{length}
use Rattle.address.specs.Limits.{function_room}
use Rattle.word.proofs.Mapped.{long_unmapped}
use borrow.Author.Rules.{rules}
use Rattle.placement.proofs.Slots.{key_in, key_past}
use Rattle.placement.proofs.declared_bars.bar_at.Goals as goal
use Rattle.placement.proofs.declared_bars.bar_at.Goals.{Start}

long : (c : Start) → length c.args.declared.functions ≡ function_room
long c = search (rules, long_unmapped)

pub returns-then-i-declared : goal.returns-then-i-declared
returns-then-i-declared c = c.bar_in_slot.ensures ∙ sym (key_in _ _ _ (omega (arith, long (goal.at.returns-then-i-declared c).Start)) c.if-i-declared.true)

pub returns : goal.returns
returns c = c.none.ensures ∙ sym (key_past _ _ c.if-i-declared.false)
