-- Numbers as text, in ASCII (document 01: "Hex digits are as many as shown, in lower case"; "number, place and index in decimal").
use Rattle.std.specs.Prelude.{ℕ, ◌+◌, ◌^◌, List, ltb}
use Rattle.word.specs.Search.{first_below}
use Rattle.io.specs.Digits.{last_digits}

-- the last n hex digits of a number, the highest first
unfoldable pub hex_of : ℕ → ℕ → List ℕ
hex_of n v = last_digits 16 n v

-- the most decimal digits that a 64-bit number has
abbrev pub decimal_room : ℕ
decimal_room = 20

-- the fewest decimal digits that hold a number, one at least
unfoldable pub decimal_length : ℕ → ℕ
decimal_length v = 1 + first_below (λ k. ltb v (10 ^ (1 + k))) decimal_room

-- a number in decimal, with no zeros in front
unfoldable pub decimal_of : ℕ → List ℕ
decimal_of v = last_digits 10 (decimal_length v) v
