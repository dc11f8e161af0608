-- `request_of` goes by the test.
use Rattle.harness.proofs.places.request_of.Goals as goal

pub returns-then-fixed : goal.returns-then-fixed
returns-then-fixed c = rw c.if-fixed.true

pub returns : goal.returns
returns c = rw c.if-fixed.false
