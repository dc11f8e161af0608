-- `spelt` takes the bytes from the last on: what is read so far is the number of those from i on.
use Prim.Native.Nat.{◌≤◌}
use mathlib.Core.Path.{◌≡◌}
use lib.ListN.{length, drop}
use Rattle.word.specs.Number.{number}
use Rattle.word.proofs.number.spelt.Given as goal

abbrev pub invariant-loop-i : goal.invariant-loop-i
invariant-loop-i l = (l.i ≤ length l.bytes) × (l.n ≡ number (drop l.i l.bytes))
