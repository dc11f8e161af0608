use native.Mathlib.Omega.{arith}
use Rattle.word.proofs.ReadSums.{read_two}
use Rattle.word.proofs.number.word_there.Goals as goal

pub returns : goal.returns
returns c = omega (arith, c.from.ensures, c.from_le_bytes.ensures, read_two c.args.bytes.now c.args.offset)
