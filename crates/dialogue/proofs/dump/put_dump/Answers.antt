use Rattle.text.proofs.Writes.{put_none, put_more}
use Rattle.dialogue.specs.Dump.{function_dump, dump_room}
use Rattle.dialogue.proofs.dump.put_dump.Goals as goal

pub loop-k-init : goal.loop-k-init
loop-k-init c = put_none c.args.text.now (function_dump c.args.bus) dump_room

pub loop-k-preserved : goal.loop-k-preserved
loop-k-preserved c = put_more c.args.text.now c.loop-k.text c.put_function_dump.new.text (function_dump c.args.bus) dump_room c.loop-k.k c.loop-k.invariant c.put_function_dump.ensures
