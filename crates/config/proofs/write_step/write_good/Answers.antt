-- `write_good` asks the registers first, then the effects.
use Prim.Native.Nat.{ℕ}
use mathlib.Core.Bool.{false}
use mathlib.Core.Path.{◌≡◌, sym, ap, ◌∙◌}
use Rattle.config.specs.State.{in_bar}
use Rattle.config.specs.Write.{write_good}
use Rattle.config.proofs.Writing.{write_register, write_elsewhere}
use Rattle.config.proofs.write_step.write_good.Goals as goal

pub returns-then-register : goal.returns-then-register
returns-then-register c = let a = c.args in
    c.bar_step.ensures ∙ sym (write_register _ _ _ _ (sym c.in_bar-register.ensures ∙ c.if-register.true)) ∙
    ap (λ (n : ℕ). write_good a.state n a.width a.value) c.value-at.ensures

pub returns : goal.returns
returns c = let a = c.args in
    let v = c.value-at in
    let e : in_bar a.state.bars v.result ≡ false = sym c.in_bar-register.ensures ∙ c.if-register.false in
    c.write_touched.ensures ∙ rw (c.effect_for_access-touch.ensures, v.ensures) (sym (write_elsewhere a.state a.offset.0 a.width a.value (rw v.ensures at e)))
