use native.Mathlib.Omega.{arith}
use Rattle.word.proofs.ReadSums.{read_four}
use Rattle.word.proofs.number.dword_there.Goals as goal

pub returns : goal.returns
returns c = omega (arith, c.from.ensures, c.from_le_bytes.ensures, read_four c.args.bytes.now c.args.offset)
