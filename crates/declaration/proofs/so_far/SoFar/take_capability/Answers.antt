-- `take_capability` goes by the answers of the layer below.
use Prim.Native.Nat.{◌≤◌}
use mathlib.Core.Path.{◌≡◌, sym, ap, ◌∙◌}
use borrow.Author.Rules.{rules}
use Rattle.address.specs.Limits.{limits}
use Rattle.capability.proofs.Declarations.{capability_is}
use Rattle.capability.specs.Declaration.{capability}
use Rattle.capability.specs.declared.declared.Capability.{Capability}
use Rattle.capability.specs.Size.{body_most}
use Rattle.capability.specs.Addition.{add_capability_of}
use Rattle.declaration.proofs.Adds.{capability_step}
use Rattle.declaration.proofs.Takings.{capability_long, capability_early}
use Rattle.declaration.proofs.so_far.SoFar.take_capability.Goals as goal
use Rattle.declaration.proofs.so_far.SoFar.take_capability.Goals.{After-add_capability, In_ok-capability}

-- the capability that was made: its body is not too long, and it is added
short : (c : In_ok-capability) → c.args.length ≤ body_most
short c = (capability_is _ _ _ (sym c.new.ensures ∙ c.in_ok-capability.was)).1

added : (c : After-add_capability) → let a = c.args in c.add_capability.result ≡ add_capability_of limits a.self.function.capabilities (capability a.id a.length)
added c =
    let a = c.args in
    c.add_capability.ensures ∙ ap (λ (x : Capability). add_capability_of limits a.self.function.capabilities x) (capability_is _ _ _ (sym c.new.ensures ∙ c.in_ok-capability.was)).0

pub returns-in_err-capability : goal.returns-in_err-capability
returns-in_err-capability c =
    let a = c.args in
    rw (capability_long limits a.self a.id a.length a.body.now _ (sym c.new.ensures ∙ c.in_err-capability.was)) (search rules)

pub returns-then-self-eq0 : goal.returns-then-self-eq0
returns-then-self-eq0 c =
    let a = c.args in
    sym (capability_early limits a.self a.id a.length a.body.now (short (goal.at.returns-then-self-eq0 c).In_ok-capability) c.if-self-eq0.true)

pub bodies_with-contents-requires : goal.bodies_with-contents-requires
bodies_with-contents-requires c = short (goal.at.bodies_with-contents-requires c).In_ok-capability

pub mask_of-mask-requires : goal.mask_of-mask-requires
mask_of-mask-requires c = short (goal.at.mask_of-mask-requires c).In_ok-capability

pub returns-in_err-with : goal.returns-in_err-with
returns-in_err-with c =
    let a = c.args in
    rw (capability_step limits a.self a.id a.length a.body.now (short (goal.at.returns-in_err-with c).In_ok-capability) c.if-self-eq0.false, ← added (goal.at.returns-in_err-with c).After-add_capability, c.in_err-with.was) (search rules)

pub returns : goal.returns
returns c =
    let a = c.args in
    rw (c.mask_of-mask.ensures, c.bodies_with-contents.ensures, capability_step limits a.self a.id a.length a.body.now (short (goal.at.returns c).In_ok-capability) c.if-self-eq0.false, ← added (goal.at.returns c).After-add_capability, c.in_ok-with.was)
