-- The bits of a number.
use Rattle.std.specs.Prelude.{ℕ, ◌/◌, ◌%◌, ◌^◌}

-- bit i, the lowest being bit 0
abbrev pub bit : ℕ → ℕ → ℕ
bit n i = n / 2 ^ i % 2
