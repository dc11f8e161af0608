use mathlib.Core.Path.{◌≡◌, ◌∙◌}
use native.Mathlib.Omega.{arith}
use Rattle.bar.specs.Bar.{no_bar}
use Rattle.placement.specs.Keys.{key_count, declared_at, bars_of}
use Rattle.word.proofs.Tables.{blank_filled, filled_more, filled_all}
use Rattle.placement.proofs.declared_bars.collect_placements.Goals as goal

pub loop-key-init : goal.loop-key-init
loop-key-init c = c.no_bars-bars.ensures ∙ blank_filled key_count (declared_at c.args.declared) no_bar

pub loop-key-preserved : goal.loop-key-preserved
loop-key-preserved c =
    let l = c.loop-key in
    rw l.invariant (filled_more key_count (declared_at c.args.declared) no_bar l.key c.bar_at-bar.result (omega arith) c.bar_at-bar.ensures)

pub returns : goal.returns
unfolding bars_of
returns c =
    let l = c.loop-key in
    let e : l.key ≡ key_count = omega arith in
    l.invariant ∙ rw e (filled_all key_count (declared_at c.args.declared) no_bar)
