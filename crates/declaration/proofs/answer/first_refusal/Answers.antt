use Prim.Native.Nat.{◌<◌}
use mathlib.Core.Bool.{false}
use mathlib.Core.Path.{◌≡◌, sym, ap, subst, ◌∙◌}
use native.Mathlib.Omega.{arith}
use borrow.Author.Count.{below_more}
use borrow.Author.Rules.{rules}
use lib.ListN.{length}
use Rattle.std.specs.Prelude.{Some, None, is_some, option_map}
use Rattle.address.specs.Limits.{function_room}
use Rattle.word.proofs.Mapped.{long_unmapped}
use Rattle.word.proofs.Tables.{get_or_inside}
use Rattle.word.proofs.Searches.{first_is, first_none}
use Rattle.config.specs.declared.function.Function.{Function}
use Rattle.declaration.specs.Answer.{refusal_of, refused_fault, first_refusal}
use Rattle.declaration.specs.Blank.{no_function}
use Rattle.declaration.specs.Finished.{count_in, function_at}
use Rattle.declaration.specs.Whole.{fault_of, faulty}
use Rattle.declaration.proofs.answer.first_refusal.Goals as goal
use Rattle.declaration.proofs.answer.first_refusal.Goals.{Start}

long : (c : Start) → length c.args.finished.functions ≡ function_room
long c = search (rules, long_unmapped)

pub loop-k-preserved : goal.loop-k-preserved
loop-k-preserved c =
    let f = c.args.finished in
    let k = c.loop-k.k in
    let h : k < length f.functions = omega (arith, c.at_most-k-end.ensures, c.loop-k-test.true, long (goal.at.loop-k-preserved c).Start) in
    below_more _ _ c.loop-k.invariant (subst (λ (x : Function). is_some (fault_of x) ≡ false) (get_or_inside f.functions k _ no_function h) (ap is_some (sym c.fault_of.ensures ∙ c.in_default.is)))

pub returns-in-Some : goal.returns-in-Some
unfolding first_refusal
returns-in-Some c =
    let f = c.args.finished in
    let k = c.loop-k.k in
    let h : k < length f.functions = omega (arith, c.at_most-k-end.ensures, c.loop-k-test.true, long (goal.at.returns-in-Some c).Start) in
    let e : fault_of (function_at f k) ≡ Some c.in-Some.fault = subst (λ (x : Function). fault_of x ≡ Some c.in-Some.fault) (get_or_inside f.functions k _ no_function h) (sym c.fault_of.ensures ∙ c.in-Some.is) in
    ap (λ (x : Function). Some (refused_fault x c.in-Some.fault)) (get_or_inside f.functions k _ no_function h) ∙ sym (first_is (λ j. refusal_of (function_at f j)) None (faulty f) (count_in f) k (record { below = omega (arith, c.at_most-k-end.ensures); before = c.loop-k.invariant; here = ap is_some e }) ∙ ap (option_map (refused_fault (function_at f k))) e)

pub returns : goal.returns
unfolding first_refusal
returns c =
    let f = c.args.finished in
    let e : c.loop-k.k ≡ count_in f = omega (arith, c.at_most-k-end.ensures) in
    sym (first_none (λ j. refusal_of (function_at f j)) None (faulty f) (count_in f) (rw e at c.loop-k.invariant))
