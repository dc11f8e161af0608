-- `bar_in`: the BAR that the size rule allows, or none.
use Prim.Native.Nat.{◌+◌, ◌*◌}
use mathlib.Core.Bool.{false}
use mathlib.Core.Path.{◌≡◌, sym, ap, ◌∙◌}
use lib.ListN.{get_or}
use Rattle.address.specs.Layout.{bar_count}
use Rattle.address.specs.Kinds.{slot}
use Rattle.bar.specs.Bar.{bar_of}
use Rattle.harness.specs.Places.{request_of, bar_or, bar_in}
use Rattle.harness.proofs.places.bar_in.Goals as goal
use Rattle.harness.proofs.places.bar_in.Goals.{After-new}

-- what was asked for
asked : (c : After-new) → let a = c.args in c.new.result ≡ bar_of (slot a.slot) (get_or a.request.sizes (a.function * bar_count + a.slot) 0) (request_of (get_or a.request.fixed (a.function * bar_count + a.slot) false) (get_or a.request.addresses (a.function * bar_count + a.slot) 0))
asked c = c.new.ensures ∙ rw (c.slot_at.ensures, c.request_of-asked.ensures)

pub returns-in-Ok : goal.returns-in-Ok
unfolding bar_in
returns-in-Ok c = ap bar_or (sym c.in-Ok.is ∙ asked (goal.at.returns-in-Ok c).After-new)

pub returns-in-Err : goal.returns-in-Err
unfolding bar_in
returns-in-Err c = c.none.ensures ∙ ap bar_or (sym c.in-Err.is ∙ asked (goal.at.returns-in-Err c).After-new)
