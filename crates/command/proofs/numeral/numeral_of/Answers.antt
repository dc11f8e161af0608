use Prim.Native.Nat.{◌+◌, ◌*◌, ◌^◌, ◌<◌}
use mathlib.Core.Path.{◌≡◌, refl, sym, ap, ◌∙◌}
use native.Mathlib.Omega.{arith}
use borrow.Author.Tests.{eqb-true, eqb-false}
use lib.ListN.{length, get_or}
use Rattle.command.specs.Numeral.{digit_of}
use Rattle.command.proofs.Numerals.{digit_some, digit_nothing, numeral_none, numeral_start, numeral_end, numeral_bad, numeral_large, numeral_more}
use Rattle.command.proofs.numeral.numeral_of.Goals as goal
use Rattle.command.proofs.numeral.numeral_of.Goals.{In_ok-digit, In_ok-shifted}

pub returns-then-is_empty : goal.returns-then-is_empty
returns-then-is_empty c = numeral_none c.args.base c.args.word.now (eqb-true _ _ (sym c.is_empty.ensures ∙ c.if-is_empty.true))

pub loop-byte-init : goal.loop-byte-init
loop-byte-init c =
    let some : length c.args.word.now ≡ 0 → ⊥ = eqb-false _ _ (sym c.is_empty.ensures ∙ c.if-is_empty.false) in
    numeral_start c.args.base c.args.word.now (omega arith)

pub returns-in_err-digit : goal.returns-in_err-digit
returns-in_err-digit c =
    let a = c.args in
    let l = c.loop-byte in
    let byte : c.from.result ≡ get_or a.word.now l.byte-index 0 = c.from.ensures in
    let n = digit_nothing a.base c.from.result c.requires.hex_at_most c.to_digit.result c.to_digit.ensures.value c.in_err-digit.was in
    rw c.from_residual.ensures (sym (numeral_bad a.base a.word.now l.byte-index l.value _ (omega arith) refl (rw byte at n)) ∙ l.invariant)

-- the digit that was read
read : (c : In_ok-digit) → (c.in_ok-digit.digit ≡ digit_of (get_or c.args.word.now c.loop-byte.byte-index 0)) × (c.in_ok-digit.digit < c.args.base)
read c =
    let a = c.args in
    let byte : c.from.result ≡ get_or a.word.now c.loop-byte.byte-index 0 = c.from.ensures in
    let d = digit_some a.base c.from.result c.requires.hex_at_most c.to_digit.result c.in_ok-digit.digit c.to_digit.ensures.value c.in_ok-digit.was in
    (d.0 ∙ ap digit_of byte, d.1)

pub returns-in_err-shifted : goal.returns-in_err-shifted
returns-in_err-shifted c =
    let a = c.args in
    let l = c.loop-byte in
    let d = read (goal.at.returns-in_err-shifted c).In_ok-digit in
    let b : c.from-in-loop-byte.result ≡ a.base = c.from-in-loop-byte.ensures in
    let large : l.value * a.base < 2 ^ 64 → ⊥ = λ h. c.in_err-shifted.ensures (rw b h) in
    rw c.from_residual-in_err-shifted.ensures (sym (numeral_large a.base a.word.now l.byte-index l.value c.in_ok-digit.digit (omega arith) d.0 d.1 (omega arith)) ∙ l.invariant)

-- the digits before it, moved by one
moved : (c : In_ok-shifted) → c.in_ok-shifted.shifted ≡ c.loop-byte.value * c.args.base
moved c =
    let b : c.from-in-loop-byte.result ≡ c.args.base = c.from-in-loop-byte.ensures in
    c.in_ok-shifted.ensures.1 ∙ rw b

pub returns-in_err-value : goal.returns-in_err-value
returns-in_err-value c =
    let a = c.args in
    let l = c.loop-byte in
    let d = read (goal.at.returns-in_err-value c).In_ok-digit in
    let m = moved (goal.at.returns-in_err-value c).In_ok-shifted in
    let large = c.in_err-value.ensures in
    rw c.from_residual-in_err-value.ensures (sym (numeral_large a.base a.word.now l.byte-index l.value c.in_ok-digit.digit (omega arith) d.0 d.1 (omega (arith, c.from-in-loop-byte-2.ensures))) ∙ l.invariant)

pub loop-byte-preserved : goal.loop-byte-preserved
loop-byte-preserved c =
    let a = c.args in
    let l = c.loop-byte in
    let d = read (goal.at.loop-byte-preserved c).In_ok-digit in
    let m = moved (goal.at.loop-byte-preserved c).In_ok-shifted in
    let v : c.in_ok-value.value ≡ l.value * a.base + c.in_ok-digit.digit = omega (arith, c.in_ok-value.ensures.1, c.from-in-loop-byte-2.ensures) in
    rw v (sym (numeral_more a.base a.word.now l.byte-index l.value c.in_ok-digit.digit (omega arith) d.0 d.1 (omega (arith, v, c.in_ok-value.ensures))) ∙ l.invariant)

pub returns : goal.returns
returns c = sym (numeral_end c.args.base c.args.word.now c.loop-byte.byte-index c.loop-byte.value (omega arith)) ∙ c.loop-byte.invariant
