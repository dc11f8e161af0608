-- `lay`: after i bytes the list is that with i bytes laid over it.
use Prim.Native.Nat.{◌-◌, min}
use mathlib.Core.Path.{◌≡◌}
use lib.ListN.{length}
use Rattle.word.specs.Store.{laid_over}
use Rattle.word.proofs.plain.lay.Given as goal

abbrev pub invariant-loop-i : goal.invariant-loop-i
invariant-loop-i l = (l.many ≡ min (length l.part) (length l.initial.bytes - l.offset)) × (l.bytes ≡ laid_over l.initial.bytes l.offset l.i l.part) × (length l.bytes ≡ length l.initial.bytes)
