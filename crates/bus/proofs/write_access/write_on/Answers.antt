-- `write_on` says of the function what its step says; where that changes nothing it is put back.
use mathlib.Core.Path.{◌≡◌, sym, ap, ◌∙◌}
use native.Mathlib.Omega.{arith}
use lib.ListN.{length}
use borrow.Author.Rules.{rules}
use Rattle.std.proofs.Common.{Ok}
use Rattle.word.proofs.Mapped.{long_unmapped}
use Rattle.address.specs.Limits.{function_room}
use Rattle.config.specs.declared.write_step.WriteDone.{WriteDone}
use Rattle.bus.specs.Access.{stepped_on, written_on}
use Rattle.bus.proofs.Candidates.{candidate_slot}
use Rattle.bus.proofs.Dispatch.{function_there, put_back}
use Rattle.bus.proofs.write_access.write_on.Goals as goal
use Rattle.bus.proofs.write_access.write_on.Goals.{After-write-step, Start}

long : (c : Start) → length c.args.bus.functions ≡ function_room
long c = search (rules, long_unmapped)

-- the definition, on what the step gave
as_stepped : (c : After-write-step) → let a = c.args in let d = c.write-step.result in written_on a.bus a.k a.offset a.width a.value ≡ stepped_on a.bus a.k d.state d.answer
unfolding written_on
as_stepped c = rw (c.write-step.ensures, function_there c.args.bus c.args.k (long c.before.before) (omega arith))

pub settle-requires : goal.settle-requires
settle-requires c =
    (search rules, candidate_slot _ _ _ _ _ _ (ap (λ (d : WriteDone). d.answer) (sym c.write-step.ensures) ∙ c.in-Ok.is ∙ ap Ok c.in-Candidate.is))

pub returns-in-Stored : goal.returns-in-Stored
returns-in-Stored c = rw (c.comes_to.ensures, as_stepped (goal.at.returns-in-Stored c).After-write-step, c.in-Ok.is, c.in-Stored.is)

pub returns-in-Probing : goal.returns-in-Probing
returns-in-Probing c = rw (c.comes_to-in-Probing.ensures, as_stepped (goal.at.returns-in-Probing c).After-write-step, c.in-Ok.is, c.in-Probing.is)

pub returns-in-Candidate : goal.returns-in-Candidate
returns-in-Candidate c = c.settle.ensures ∙ rw (as_stepped (goal.at.returns-in-Candidate c).After-write-step, c.in-Ok.is, c.in-Candidate.is)

pub returns-in-Effect : goal.returns-in-Effect
returns-in-Effect c = rw (c.comes_to-in-Effect.ensures, as_stepped (goal.at.returns-in-Effect c).After-write-step, c.in-Ok.is, c.in-Effect.is, function_there c.args.bus c.args.k (long (goal.at.returns-in-Effect c).Start) (omega arith), put_back c.args.bus c.args.k)

pub returns-in-Err : goal.returns-in-Err
returns-in-Err c = rw (c.refused_at.ensures, as_stepped (goal.at.returns-in-Err c).After-write-step, c.in-Err.is, function_there c.args.bus c.args.k (long (goal.at.returns-in-Err c).Start) (omega arith), put_back c.args.bus c.args.k)
