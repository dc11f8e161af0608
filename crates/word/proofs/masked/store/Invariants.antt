-- `store`: after i bytes the image is the store of i bytes, and what is left of the value is its bytes from i on.
use Prim.Native.Nat.{◌-◌, ◌/◌, ◌^◌, min}
use mathlib.Core.Path.{◌≡◌}
use lib.ListN.{length}
use Rattle.word.specs.Store.{stored}
use Rattle.word.proofs.masked.store.Given as goal

abbrev pub invariant-loop-i : goal.invariant-loop-i
invariant-loop-i l = (l.many ≡ min (min l.width (length l.initial.live - l.offset)) (length l.mask - l.offset)) × (l.rest ≡ l.value / 256 ^ l.i) × (l.live ≡ stored l.mask l.initial.live l.offset l.i l.value) × (length l.live ≡ length l.initial.live)
