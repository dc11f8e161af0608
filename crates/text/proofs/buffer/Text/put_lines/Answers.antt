use Rattle.text.specs.Line.{bar_length}
use Rattle.text.specs.Text.{line_at}
use Rattle.text.proofs.Writes.{put_none, put_more}
use Rattle.text.proofs.buffer.Text.put_lines.Goals as goal

pub loop-key-init : goal.loop-key-init
loop-key-init c = put_none c.args.self.now (line_at c.args.shown) bar_length

pub loop-key-preserved : goal.loop-key-preserved
loop-key-preserved c = put_more c.args.self.now c.loop-key.self c.put_key.new.self (line_at c.args.shown) bar_length c.loop-key.key c.loop-key.invariant c.put_key.ensures
