-- `put_hex` writes the digits from the last to the first: those of what is left of the number, with those that stand, are the whole.
use Prim.Native.Nat.{◌+◌, ◌-◌, ◌≤◌}
use mathlib.Core.List.{◌++◌}
use mathlib.Core.Path.{◌≡◌}
use lib.ListN.{length, take, drop}
use Rattle.io.specs.Digits.{last_digits}
use Rattle.text.specs.Numeral.{hex_of}
use Rattle.text.proofs.buffer.Text.put_hex.Given as goal

abbrev pub invariant-loop-done : goal.invariant-loop-done
invariant-loop-done l =
    (l.self.at ≡ l.fn.self.at) × (l.end ≡ l.self.at + l.count) × (l.end ≤ length l.fn.self.bytes.now) × (length l.self.bytes.now ≡ length l.fn.self.bytes.now) × (take l.self.at l.self.bytes.now ≡ take l.self.at l.fn.self.bytes.now) × (last_digits 16 (l.count - l.done) l.rest ++ drop (l.end - l.done) (take l.end l.self.bytes.now) ≡ hex_of l.count l.value) × (l.self.bytes.ghost_name ≡ l.fn.self.bytes.ghost_name)
