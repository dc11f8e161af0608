-- `word_at`: two bytes are a 16-bit number.
use Rattle.word.proofs.Numbers.{read_lt}
use Rattle.declaration.proofs.said.word_at.Goals as goal

pub overflow_cast-result : goal.overflow_cast-result
overflow_cast-result c = record { fits = rw c.read.ensures (read_lt c.args.body.now c.args.at 2 (λ i. (c.type_inv.body i).fits)) }
