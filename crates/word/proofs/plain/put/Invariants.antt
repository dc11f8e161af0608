-- `put`: after i bytes the list is that with i bytes put, and what is left of the value is its bytes from i on.
use Prim.Native.Nat.{◌-◌, ◌/◌, ◌^◌, min}
use mathlib.Core.Path.{◌≡◌}
use lib.ListN.{length}
use Rattle.word.specs.Store.{put_of}
use Rattle.word.proofs.plain.put.Given as goal

abbrev pub invariant-loop-i : goal.invariant-loop-i
invariant-loop-i l = (l.many ≡ min l.width (length l.initial.bytes - l.offset)) × (l.rest ≡ l.value / 256 ^ l.i) × (l.bytes ≡ put_of l.initial.bytes l.offset l.i l.value) × (length l.bytes ≡ length l.initial.bytes)
