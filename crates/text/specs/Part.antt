-- Parts of a text, one after the other, and a part that is written where there is room for it.
use Rattle.std.specs.Prelude.{ℕ, zero, suc, ◌+◌, ◌≤◌, ◌<◌, List, [], ◌++◌, ◌≡◌, length, take}
use Rattle.text.specs.declared.buffer.Text.{Text}

-- the first n of some parts
unfoldable pub parts_below : (ℕ → List ℕ) → ℕ → List ℕ
parts_below part zero = []
parts_below part (suc n) = parts_below part n ++ part n

-- whether a text has room for n bytes more
abbrev pub Room : Text → ℕ → Type 0
Room text n = text.at + n ≤ length text.bytes.now

-- a part of at most `room` bytes follows the text, in the buffer that was lent
pub record Put (before after : Text) (room : ℕ) (part : List ℕ) : Type 0 where
  pub end : after.at ≤ before.at + room
  pub lent : after.bytes.ghost_name ≡ before.bytes.ghost_name
  pub long : length after.bytes.now ≡ length before.bytes.now
  pub text : take after.at after.bytes.now ≡ take before.at before.bytes.now ++ part

-- with `room` bytes free the part follows the text; with fewer, nothing is written
abbrev pub Written : Text → Text → ℕ → List ℕ → Type 0
Written before after room part =
    (Room before room → Put before after room part) × (length before.bytes.now < before.at + room → (after.at ≡ before.at) × (after.bytes.ghost_name ≡ before.bytes.ghost_name) × (after.bytes.now ≡ before.bytes.now))
