-- A number below 2 ^ 64 has no byte past the eighth.
use mathlib.Core.Path.{sym}
use native.Mathlib.Omega.{arith}
use borrow.Author.Tests.{ltb-false}
use Rattle.word.proofs.Numbers.{byte_past}
use Rattle.word.proofs.masked.byte_of.Goals as goal

pub returns-in-None : goal.returns-in-None
returns-in-None c = sym (byte_past c.args.value 8 c.args.k (omega arith) (ltb-false c.args.k 8 (sym (rw c.to_le_bytes.ensures at c.in-None.ensures.lookup.0))))
