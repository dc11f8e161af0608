-- `put_unknown`: the mark, the line, its end.
use mathlib.Core.List.{◌++◌, append_assoc}
use mathlib.Core.Path.{ap, ◌∙◌}
use native.Mathlib.Omega.{arith}
use lib.ListN.{length, take}
use Rattle.text.specs.Line.{ended}
use Rattle.word.specs.Number.{part_of}
use Rattle.dialogue.proofs.Shown.{part_short}
use Rattle.dialogue.specs.Answer.{line_most, unknown_text, unknown_mark}
use Rattle.dialogue.proofs.answers.put_unknown.Goals as goal

pub put_bytes-requires-2 : goal.put_bytes-requires-2
put_bytes-requires-2 c =
    let p = c.put_bytes.ensures in
    omega (arith, p.end, p.long, ap length c.part.ensures, part_short c.args.line.now 0 line_most)

pub put_bytes-requires-3 : goal.put_bytes-requires-3
put_bytes-requires-3 c =
    let p = c.put_bytes.ensures in
    let q = c.put_bytes-2.ensures in
    omega (arith, p.end, p.long, q.end, q.long, ap length c.part.ensures, part_short c.args.line.now 0 line_most)

pub returns : goal.returns
unfolding unknown_text
returns c =
    let before = c.args.text.now in
    let line = part_of c.args.line.now 0 line_most in
    let front = take before.at before.bytes.now in
    let p = c.put_bytes.ensures in
    let q = c.put_bytes-2.ensures in
    let r = c.put_bytes-3.ensures in
    record {
      end = omega (arith, p.end, q.end, r.end, ap length c.part.ensures, part_short c.args.line.now 0 line_most);
      lent = r.lent ∙ q.lent ∙ p.lent;
      long = r.long ∙ q.long ∙ p.long;
      text = r.text ∙ rw (q.text, p.text, c.part.ensures) (append_assoc (front ++ unknown_mark) line ended ∙ append_assoc front unknown_mark (line ++ ended));
    }
