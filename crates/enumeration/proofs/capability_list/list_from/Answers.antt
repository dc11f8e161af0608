use Prim.Native.Nat.{◌-◌}
use mathlib.Core.List.{[]}
use mathlib.Core.Path.{◌≡◌, sym, ◌∙◌}
use native.Mathlib.Omega.{arith}
use lib.ListN.{length}
use Rattle.word.proofs.Tables.{blank_filled, filled_more}
use Rattle.address.specs.Limits.{capability_room}
use Rattle.enumeration.specs.Enumerate.{list_from, list_array, no_listed}
use Rattle.enumeration.proofs.Lists.{list_ends, list_full, followed_none, followed_all, followed_at, followed_more}
use Rattle.enumeration.proofs.capability_list.list_from.Goals as goal
use Rattle.enumeration.proofs.capability_list.list_from.Invariants.{listed_in}
use Rattle.enumeration.proofs.capability_list.list_from.Goals.{At-loop-n}

pub loop-n-init : goal.loop-n-init
loop-n-init c =
    let a = c.args in
    (c.no_list-list.ensures ∙ blank_filled capability_room (listed_in a.bus a.device a.pointer) no_listed, followed_none a.bus a.device capability_room a.pointer)

-- nothing is left, so what is listed is the whole
ended : (c : At-loop-n) → let a = c.args in let l = c.loop-n in list_from a.bus a.device (capability_room - l.n) l.at ≡ [] → (l.list ≡ list_array (list_from a.bus a.device capability_room a.pointer)) × (l.n ≡ length (list_from a.bus a.device capability_room a.pointer))
ended c e =
    let a = c.args in
    let l = c.loop-n in
    let q = followed_all a.bus a.device capability_room a.pointer l.n l.at l.invariant.1 e in
    (l.invariant.0 ∙ rw q, q)

pub returns-then-not-there : goal.returns-then-not-there
returns-then-not-there c =
    let a = c.args in
    ended (goal.at.returns-then-not-there c).At-loop-n (list_ends a.bus a.device _ _ (sym c.goes_on-there.ensures ∙ c.if-not-there.true))

pub loop-n-preserved : goal.loop-n-preserved
loop-n-preserved c =
    let l = c.loop-n in
    let a = c.args in
    let on = sym c.goes_on-there.ensures ∙ c.if-not-there.false in
    let f = l.invariant.1 in (
      rw l.invariant.0 (filled_more capability_room (listed_in a.bus a.device a.pointer) no_listed l.n _ (omega arith) (c.listed_at-listed.ensures ∙ followed_at a.bus a.device capability_room a.pointer l.n l.at f (omega arith) on)),
      rw c.next_pointer-at.ensures (followed_more a.bus a.device capability_room a.pointer l.n l.at f (omega arith) on),
    )

pub returns : goal.returns
returns c =
    let a = c.args in
    let e : c.loop-n.n ≡ capability_room = omega arith in
    let h = ended (goal.at.returns c).At-loop-n (rw e (list_full a.bus a.device c.loop-n.at)) in
    (h.0, sym e ∙ h.1)
