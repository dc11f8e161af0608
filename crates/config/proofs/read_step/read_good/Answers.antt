-- `read_good` asks the registers first, then the effects.
use mathlib.Core.Bool.{true, false}
use mathlib.Core.Path.{◌≡◌, sym, ◌∙◌}
use Rattle.config.specs.State.{in_bar}
use Rattle.config.proofs.Reading.{read_register, read_elsewhere}
use Rattle.config.proofs.read_step.read_good.Goals as goal

pub returns-then-register : goal.returns-then-register
returns-then-register c = let a = c.args in
    let v = c.value-at in
    let e : in_bar a.state.bars v.result ≡ true = sym c.in_bar-register.ensures ∙ c.if-register.true in
    rw (c.register_bytes.ensures, v.ensures) (sym (read_register a.state a.offset.0 a.width (rw v.ensures at e)))

pub returns : goal.returns
returns c = let a = c.args in
    let v = c.value-at in
    let e : in_bar a.state.bars v.result ≡ false = sym c.in_bar-register.ensures ∙ c.if-register.false in
    c.read_touched.ensures ∙ rw (c.effect_for_access-touch.ensures, v.ensures) (sym (read_elsewhere a.state a.offset.0 a.width (rw v.ensures at e)))
