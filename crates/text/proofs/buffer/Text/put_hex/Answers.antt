use Prim.Native.Nat.{◌+◌, ◌-◌, ◌%◌}
use mathlib.Core.Path.{◌≡◌, refl, ◌∙◌}
use native.Mathlib.Omega.{arith}
use lib.ListN.{take, get_or, length-set}
use lib.Seq.{take-set-le}
use Rattle.text.specs.Numeral.{hex_of}
use Rattle.text.proofs.Numerals.{hex_digits, digit_table, digits_none, digits_more, digits_all}
use Rattle.text.proofs.buffer.Text.put_hex.Goals as goal

pub loop-done-init : goal.loop-done-init
loop-done-init c =
    let s = c.args.self.now in
    let n = c.args.count in
    let all : s.at + n - s.at ≡ n - 0 = omega arith in
    let e : s.at + n - 0 ≡ s.at + n = omega arith in
    (refl, refl, c.requires, refl, refl, rw (← all, e) (digits_none s.bytes.now s.at (s.at + n) c.requires n c.args.value refl), refl)

pub loop-done-preserved : goal.loop-done-preserved
loop-done-preserved c =
    let n = c.args.count in
    let l = c.loop-done in
    let t = l.self.bytes.now in
    let at = l.self.at in
    let end = c.args.self.now.at + n in
    let i = end - l.done in
    let j = end - 1 - l.done in
    let g = get_or hex_digits (l.rest % 16) 0 in
    let m : i - at ≡ n - l.done = omega arith in
    let o : j - at ≡ n - (l.done + 1) = omega arith in
    let p : j ≡ end - (l.done + 1) = omega arith in
    let digit = digit_table (l.rest % 16) (omega arith) in
    let more = digits_more t at end (omega arith) i j l.rest g (omega arith) (omega arith) (omega arith) digit in
    (l.invariant.0, l.invariant.1, l.invariant.2, simp length-set l.invariant.3, take-set-le at t j g (omega arith) ∙ l.invariant.4, rw (← o, ← p) (more ∙ rw m l.invariant.5), l.invariant.6)

pub returns : goal.returns
returns c =
    let n = c.args.count in
    let s = c.args.self.now in
    let l = c.loop-done in
    let none : n - l.done ≡ 0 = omega arith in
    let e : s.at + n - l.done ≡ s.at = omega arith in
    let at : l.self.at ≡ s.at = l.invariant.0 in
    record {
      end = omega arith;
      lent = l.invariant.6;
      long = l.invariant.3;
      text = digits_all l.self.bytes.now s.at (s.at + n) (omega arith) (take s.at s.bytes.now) (hex_of n c.args.value) (omega arith) (rw at at l.invariant.4) (rw (none, e) at l.invariant.5);
    }
