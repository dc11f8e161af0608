-- `put_decimal`: as many digits as the definition says, since no fewer hold the number.
use mathlib.Core.Path.{◌∙◌}
use native.Mathlib.Omega.{arith}
use borrow.Author.Rules.{rules}
use Rattle.text.specs.Numeral.{decimal_of}
use Rattle.text.proofs.Numerals.{decimal_few, decimal_places}
use Rattle.text.proofs.buffer.Text.put_decimal.Goals as goal

pub returns : goal.returns
unfolding decimal_of
returns c =
    let a = c.args in
    let d = c.decimal-count in
    let few = decimal_few a.value d.result d.ensures.len (search rules) in
    let e = decimal_places a.value d.result d.ensures.len (search rules) in
    let p = c.put_bytes.ensures in
    record {
      end = omega (arith, p.end, d.ensures.in_bounds, few);
      lent = p.lent;
      long = p.long;
      text = p.text ∙ rw (d.ensures.digits, e);
    }
