-- `ones` is told of the three widths.
use Prim.Native.Nat.{ℕ, ◌-◌, ◌^◌, ◌≤◌}
use mathlib.Core.Path.{◌≡◌, refl}
use native.Mathlib.Omega.{arith}
use Rattle.word.proofs.Widths.{by_width, width_most}
use Rattle.address.specs.Check.{most_width}
use Rattle.bus.proofs.read_access.ones.Goals as goal

pub returns-in_default : goal.returns-in_default
returns-in_default c =
    let r = c.in_default.in_default-own.rest in
    by_width (λ (w : ℕ). w ≤ most_width → (w ≡ 1 → ⊥) → (w ≡ 2 → ⊥) → 0xffffffff ≡ 256 ^ w - 1)
    (λ m a b. absurd (a refl)) (λ m a b. absurd (b refl)) (λ m a b. refl) (λ m a b. absurd (omega arith))
    most_width c.args.width c.requires (width_most most_width _ c.requires) r.0.1 r.1
