-- `file_text`: by the length of the file.
use mathlib.Core.Path.{◌∙◌}
use native.Mathlib.Omega.{arith}
use borrow.Author.Tests.{lt-ltb, le-ltb}
use Rattle.text.specs.Text.{text_of}
use Rattle.text.proofs.Writes.{counts}
use Rattle.text.proofs.whole.file_text.Goals as goal
use Rattle.text.proofs.whole.file_text.Goals.{in-Ok, in-Err}

pub returns-then-file-gt-FILE_MOST : goal.returns-then-file-gt-FILE_MOST
unfolding text_of
returns-then-file-gt-FILE_MOST c =
    let p = c.put_bytes.ensures in
    (counts _ _ (omega (arith, p.end, p.long)), p.text ∙ rw (lt-ltb _ _ c.if-file-gt-FILE_MOST.true))

pub returns : goal.returns
unfolding text_of
returns c =
    let short = le-ltb _ _ c.if-file-gt-FILE_MOST.false in
    elim c.match-start.branch [
      | in-Ok w ↦
          let p = w.put_accepted.ensures in
          rw w.text-is (counts _ _ (omega (arith, p.end, p.long)), p.text ∙ rw (w.shown_of.ensures, ← c.start.ensures, w.in-Ok.is, short))
      | in-Err w ↦
          let p = w.put_refused.ensures in
          rw w.text-is (counts _ _ (omega (arith, p.end, p.long)), p.text ∙ rw (← c.start.ensures, w.in-Err.is, short))
    ]
