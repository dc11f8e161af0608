use Rattle.text.proofs.Writes.{put_none, put_more}
use Rattle.dialogue.specs.Dump.{byte_in}
use Rattle.dialogue.proofs.dump.put_row_bytes.Goals as goal

pub loop-i-init : goal.loop-i-init
loop-i-init c = put_none c.args.text.now (byte_in c.args.bus c.args.k c.args.row) 3

pub loop-i-preserved : goal.loop-i-preserved
loop-i-preserved c = put_more c.args.text.now c.loop-i.text c.put_column.new.text (byte_in c.args.bus c.args.k c.args.row) 3 c.loop-i.i c.loop-i.invariant (rw c.byte_shown.ensures at c.put_column.ensures)
