use Prim.Native.Nat.{◌*◌, ◌/◌, ◌%◌, ◌<◌}
use mathlib.Core.Path.{◌≡◌, sym, ap, ◌∙◌}
use native.Mathlib.Omega.{arith}
use borrow.Author.Rules.{rules}
use lib.ListN.{length}
use Rattle.word.proofs.Mapped.{long_unmapped}
use Rattle.word.proofs.Tables.{blank_filled, filled_more}
use Rattle.address.specs.Layout.{bar_count}
use Rattle.address.specs.Limits.{function_room}
use Rattle.config.specs.declared.state.FunctionState.{FunctionState}
use Rattle.bar.specs.State.{range_of}
use Rattle.config.specs.State.{bar_at}
use Rattle.placement.specs.Keys.{key_count}
use Rattle.placement.specs.Place.{no_range}
use Rattle.bus.specs.Bus.{count_on, range_on}
use Rattle.bus.proofs.Committed.{range_there, ranges_filled}
use Rattle.bus.proofs.Dispatch.{function_there}
use Rattle.bus.proofs.ranges.ranges_on.Goals as goal
use Rattle.bus.proofs.ranges.ranges_on.Goals.{Start}

long : (c : Start) → length c.args.bus.functions ≡ function_room
long c = search (rules, long_unmapped)

pub loop-key-init : goal.loop-key-init
loop-key-init c = c.no_ranges-ranges.ensures ∙ blank_filled key_count (range_on _) no_range

pub loop-key-preserved : goal.loop-key-preserved
loop-key-preserved c =
    let l = c.loop-key in
    let b = c.args.bus in
    let k : l.key / bar_count < count_on b = omega (arith, c.count_on-end.ensures) in
    rw l.invariant
    (filled_more key_count (range_on b) no_range l.key _ (omega arith)
    (c.range-range.ensures ∙ ap (λ (f : FunctionState). range_of (bar_at f.bars (l.key % bar_count))) (function_there b (l.key / bar_count) (long (goal.at.loop-key-preserved c).Start) (omega arith)) ∙ sym (range_there b l.key k)))

pub returns : goal.returns
returns c =
    let l = c.loop-key in
    let b = c.args.bus in
    let e : l.key ≡ count_on b * bar_count = omega (arith, c.count_on-end.ensures) in
    l.invariant ∙ rw e (ranges_filled b)
