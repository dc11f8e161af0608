use Rattle.text.proofs.Writes.{put_none, put_more}
use Rattle.dialogue.specs.Effect.{byte_text}
use Rattle.dialogue.proofs.effect.put_body_bytes.Goals as goal

pub loop-k-init : goal.loop-k-init
loop-k-init c = put_none c.args.text.now (byte_text c.args.body.bytes) 2

pub loop-k-preserved : goal.loop-k-preserved
loop-k-preserved c = put_more c.args.text.now c.loop-k.text c.put_hex.new.text (byte_text c.args.body.bytes) 2 c.loop-k.k c.loop-k.invariant (rw c.from.ensures at c.put_hex.ensures)
