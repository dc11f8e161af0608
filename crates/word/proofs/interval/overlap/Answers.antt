-- `overlap` compares the distance of the starts with the length of the one that starts first.
use mathlib.Core.Path.{sym}
use native.Mathlib.Omega.{arith}
use Rattle.word.proofs.Intervals.{apart_overlap, overlap_reach, overlap_back}
use Rattle.word.proofs.interval.overlap.Goals as goal

pub returns-then-v-eq0 : goal.returns-then-v-eq0
returns-then-v-eq0 c = sym (apart_overlap _ _ _ _ (omega (arith, c.if-v-eq0.true)))

pub returns-then-o-p : goal.returns-then-o-p
returns-then-o-p c = overlap_reach _ _ _ _ (omega arith) (omega arith)

pub returns-then-w-eq0 : goal.returns-then-w-eq0
returns-then-w-eq0 c = sym (apart_overlap _ _ _ _ (omega (arith, c.if-w-eq0.true)))

pub returns : goal.returns
returns c = overlap_back _ _ _ _ (omega arith) (omega arith)
