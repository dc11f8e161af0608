-- Every number shown of an accepted file fits its digits: the aperture ends at 4 GiB at most, and so does every BAR.
use Prim.Native.Nat.{ℕ}
use mathlib.Core.Bool.{true}
use mathlib.Core.List.{List}
use mathlib.Core.Path.{◌≡◌}
use native.Mathlib.Omega.{arith}
use Rattle.std.specs.Prelude.{is_ok}
use Rattle.address.specs.Limits.{limits}
use Rattle.declaration.specs.Good.{Bytes}
use Rattle.bus.specs.Outcome.{declaration_of}
use Rattle.bus.specs.Sound.{Sound}
use Rattle.bus.specs.Start.{bus_given, start_of}
use Rattle.declaration.specs.declared.answer.Declaration.{Declaration}
use Rattle.bus.specs.declared.state.Bus.{Bus}
use Rattle.declaration.proofs.Goods.{limits_within}
use Rattle.bus.proofs.Sounds.{start_sound}
use Rattle.text.specs.Fits.{Fits}

pub sound_fits : (d : Declaration) (b : Bus) → Sound d b → Fits b
sound_fits d b s =
    let filled = s.good.aperture.filled in
    let most = s.good.aperture.most in
    record {
      start = rw s.aperture (omega (arith, filled, most));
      end = rw s.aperture (omega (arith, most));
      device = λ k h. omega (arith, s.most k h);
      slot = λ key. omega arith;
      address = λ key z. omega (arith, s.committed.below key);
      size = λ key. omega (arith, s.committed.below key);
    }

pub accepted_fits : (file : List ℕ) → Bytes file → is_ok (start_of limits file) ≡ true → Fits (bus_given (start_of limits file))
accepted_fits file b e = sound_fits (declaration_of limits file) (bus_given (start_of limits file)) (start_sound limits limits_within file b e).sound
