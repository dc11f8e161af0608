-- `covered` compares without a sum that could wrap.
use mathlib.Core.Path.{sym}
use Rattle.word.proofs.Intervals.{covers_before, covers_rest}
use Rattle.word.proofs.interval.covered.Goals as goal

pub returns-then-at-start : goal.returns-then-at-start
returns-then-at-start c = sym (covers_before _ _ _ c.if-at-start.true)

pub returns : goal.returns
returns c = covers_rest _ _ _ c.if-at-start.false
