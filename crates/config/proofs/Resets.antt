-- What a reset of a function leaves.
use Prim.Native.Nat.{ℕ, ◌+◌, ◌<◌, min}
use mathlib.Core.List.{map}
use mathlib.Core.Path.{◌≡◌, refl}
use borrow.Author.Tests.{eq-eqb, ne_eqb}
use native.Mathlib.Omega.{arith}
use Rattle.bar.specs.State.{reset_of}
use Rattle.config.specs.Command.{largest_revision}
use Rattle.config.specs.Reset.{restored, reset_done}
use Rattle.config.specs.declared.state.FunctionState.{FunctionState}
use Rattle.refusal.specs.declared.refusal.Refusal.TheVariants.{RevisionExhausted}
use Rattle.std.proofs.Common.{Ok, Err}

abbrev done_with : FunctionState → ℕ → FunctionState
done_with f n = record { live = f.power_on; power_on = f.power_on; mask = f.mask; bars = map reset_of f.bars; placed = f.placed; revision = n }

pub reset_exhausted : (f : FunctionState) → f.revision ≡ largest_revision → reset_done f ≡ record { answer = Err RevisionExhausted; state = done_with f f.revision }
unfolding reset_done
reset_exhausted f e = let m : min (f.revision + 1) largest_revision ≡ f.revision = omega arith in rw (eq-eqb f.revision largest_revision e, m)

pub reset_restored : (f : FunctionState) → f.revision < largest_revision → reset_done f ≡ record { answer = Ok tt; state = done_with f (f.revision + 1) }
unfolding reset_done
reset_restored f h =
    let m : min (f.revision + 1) largest_revision ≡ f.revision + 1 = omega arith in
    rw (ne_eqb f.revision largest_revision (λ e. omega arith), m)

-- in either case everything else is restored
pub reset_state : (f : FunctionState) → (reset_done f).state ≡ restored f
unfolding reset_done
reset_state f = refl
