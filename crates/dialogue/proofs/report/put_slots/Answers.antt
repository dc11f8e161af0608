use Rattle.text.proofs.Writes.{put_none, put_more}
use Rattle.dialogue.specs.Report.{slot_in, slot_room}
use Rattle.dialogue.proofs.report.put_slots.Goals as goal

pub loop-i-init : goal.loop-i-init
loop-i-init c = put_none c.args.text.now (slot_in c.args.report) slot_room

pub loop-i-preserved : goal.loop-i-preserved
loop-i-preserved c = put_more c.args.text.now c.loop-i.text c.put_slot.new.text (slot_in c.args.report) slot_room c.loop-i.i c.loop-i.invariant c.put_slot.ensures
