use Rattle.text.proofs.Writes.{put_none, put_more}
use Rattle.dialogue.specs.Dump.{row_text, row_room}
use Rattle.dialogue.proofs.dump.put_rows.Goals as goal

pub loop-row-init : goal.loop-row-init
loop-row-init c = put_none c.args.text.now (row_text c.args.bus c.args.k) row_room

pub loop-row-preserved : goal.loop-row-preserved
loop-row-preserved c = put_more c.args.text.now c.loop-row.text c.put_row.new.text (row_text c.args.bus c.args.k) row_room c.loop-row.row c.loop-row.invariant c.put_row.ensures
