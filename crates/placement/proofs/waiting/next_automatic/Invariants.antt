-- `next_automatic` after n keys knows the first one of these that wait.
use Rattle.placement.proofs.Largests.{Known}
use Rattle.placement.proofs.waiting.next_automatic.Given as goal

abbrev pub invariant-loop-key : goal.invariant-loop-key
invariant-loop-key l = Known l.bars l.placed l.key l.next
