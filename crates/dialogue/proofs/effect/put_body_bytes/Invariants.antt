-- `put_body_bytes` writes each byte after those before it.
use Prim.Native.Nat.{◌*◌}
use Rattle.text.specs.Part.{parts_below, Put}
use Rattle.dialogue.specs.Effect.{byte_text}
use Rattle.dialogue.proofs.effect.put_body_bytes.Given as goal

abbrev pub invariant-loop-k : goal.invariant-loop-k
invariant-loop-k l = Put l.fn.text l.text (l.k * 2) (parts_below (byte_text l.bytes) l.k)
