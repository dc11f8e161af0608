-- The command bits that a guest may write, and the revision that follows them (document 01, "Power-on image" and "Access and reset").
use Rattle.std.specs.Prelude.{ℕ, ◌+◌, ◌*◌, ◌-◌, ◌/◌, ◌%◌, ◌^◌, Bool, false, cond, List, ◌≡◌, eqb, get_or}
use Rattle.std.specs.Int.Bits.{bit_and}
use Rattle.word.specs.Bit.{bit}
use Rattle.address.specs.Layout as layout

-- "Masks: 0x06 at 0x04, 0x04 at 0x05": command bits 1 and 2 in the lower byte, 10 in the upper one
abbrev pub command_low : ℕ
command_low = layout.memory_space_enable + layout.bus_master_enable

abbrev pub command_high : ℕ
command_high = layout.interrupt_disable

-- these bits of two bytes, as one number
abbrev pub watched_bits : ℕ → ℕ → ℕ
watched_bits low high = bit_and low command_low + 256 * bit_and high command_high

-- and of an image
unfoldable pub watched : List ℕ → ℕ
watched image = watched_bits (get_or image layout.command 0) (get_or image (layout.command + 1) 0)

-- "revision counter at its largest", of 64 bits
abbrev pub largest_revision : ℕ
largest_revision = 2 ^ 64 - 1

-- "A write that changes command bit 1, 2 or 10 adds 1 to the function's 64-bit revision": the revision after the live image becomes another
unfoldable pub revision_after : List ℕ → List ℕ → ℕ → ℕ
revision_after live next revision = cond (eqb (watched live) (watched next)) revision (revision + 1)

-- "20 on a write": a command bit would change and the revision is at its largest
unfoldable pub exhausted : List ℕ → List ℕ → ℕ → Bool
exhausted live next revision = cond (eqb (watched live) (watched next)) false (eqb revision largest_revision)

-- bit i of an image's command register, which has two bytes
abbrev pub command_bit : List ℕ → ℕ → ℕ
command_bit image i = bit (get_or image (layout.command + i / 8) 0) (i % 8)

-- two images agree in "command bit 1, 2 or 10" (proofs/Commands.antt: exactly if `watched` says the same of both)
pub record SameCommand (a b : List ℕ) : Type 0 where
  pub memory : command_bit a 1 ≡ command_bit b 1
  pub master : command_bit a 2 ≡ command_bit b 2
  pub interrupt : command_bit a 10 ≡ command_bit b 10

-- so the revision goes from n to m as the live image becomes `next` (proofs/Kept.antt: on every write)
pub data Follows (live next : List ℕ) (n m : ℕ) : Type 0 where
  stays : SameCommand live next → m ≡ n → Follows live next n m
  counts : (SameCommand live next → ⊥) → m ≡ n + 1 → Follows live next n m
