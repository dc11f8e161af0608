-- Layouts of bodies of the lengths `length`, whichever they are: by these refusal 13 says that a capability cannot end in the space, and not only that one way of placing it does not.
use Rattle.std.specs.Prelude.{ℕ, suc, ◌%◌, ◌<◌, ◌≤◌, ◌≡◌}
use Rattle.address.specs.Layout.{standard_header_end}
use Rattle.capability.specs.Offset.{alignment, capability_end}

-- a layout of the first n: multiples of 4 from 0x40 on, each at or after the end of the one before, and all end in the space
pub record Arranged (space : ℕ) (length : ℕ → ℕ) (n : ℕ) (at : ℕ → ℕ) : Type 0 where
  pub first : 0 < n → standard_header_end ≤ at 0
  pub multiple : (k : ℕ) → k < n → at k % alignment ≡ 0
  pub after : (k : ℕ) → suc k < n → capability_end (at k) (length k) ≤ at (suc k)
  pub inside : (k : ℕ) → k < n → capability_end (at k) (length k) ≤ space

-- the first n have one
abbrev pub Fit : ℕ → (ℕ → ℕ) → ℕ → Type 0
Fit space length n = (at : ℕ → ℕ) × Arranged space length n at
