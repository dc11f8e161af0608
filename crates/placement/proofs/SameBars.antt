-- Placement goes by the BARs at each key: declarations that agree in them are placed alike.
use Prim.Native.Nat.{ℕ}
use mathlib.Core.List.{List}
use mathlib.Core.Path.{◌≡◌}
use Rattle.std.specs.Prelude.{Ok, Err}
use Rattle.bar.specs.declared.range.Aperture.{Aperture}
use Rattle.placement.specs.Keys.{bars_of}
use Rattle.placement.specs.Passes.{Placing, placing_of}
use Rattle.placement.specs.Answer.{answered, placement_of}
use Rattle.placement.specs.declared.declared_bars.DeclaredBars.{DeclaredBars}

-- an answer that gives addresses does not depend on the devices
by_placing : (d e : DeclaredBars) (s : Placing) (addresses : List ℕ) → answered e s ≡ Ok addresses → answered d s ≡ Ok addresses
by_placing d e (Ok placed) addresses q = q
by_placing d e (Err r) addresses q = cc

pub same_bars : (a : Aperture) (d e : DeclaredBars) (addresses : List ℕ) → bars_of d ≡ bars_of e → placement_of a e ≡ Ok addresses → placement_of a d ≡ Ok addresses
unfolding placement_of
same_bars a d e addresses h q = rw h (by_placing d e (placing_of a (bars_of e)) addresses q)
