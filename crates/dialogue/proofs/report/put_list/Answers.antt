use Rattle.text.proofs.Writes.{put_none, put_more}
use Rattle.dialogue.specs.Report.{listed_in, listed_room}
use Rattle.dialogue.proofs.report.put_list.Goals as goal

pub loop-k-init : goal.loop-k-init
loop-k-init c = put_none c.args.text.now (listed_in c.args.report) listed_room

pub loop-k-preserved : goal.loop-k-preserved
loop-k-preserved c = put_more c.args.text.now c.loop-k.text c.put_listed.new.text (listed_in c.args.report) listed_room c.loop-k.k c.loop-k.invariant c.put_listed.ensures
