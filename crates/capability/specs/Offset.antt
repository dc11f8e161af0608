-- Where capabilities start (document 01, "Power-on image").
use Rattle.std.specs.Prelude.{ℕ, zero, suc, ◌+◌, ◌-◌, ◌*◌, ◌/◌}
use Rattle.address.specs.Layout.{standard_header_end}
use Rattle.capability.specs.Size.{header_size}

-- capabilities start at multiples of 4
abbrev pub alignment : ℕ
alignment = 4

-- the first multiple of 4 from n on
unfoldable pub next_multiple : ℕ → ℕ
next_multiple n = (n + (alignment - 1)) / alignment * alignment

-- where a capability ends that starts at `start`, with a body of `body` bytes
abbrev pub capability_end : ℕ → ℕ → ℕ
capability_end start body = start + header_size + body

-- "Capabilities start at 0x40, each at the next multiple of 4 after the one before": where capability k starts, with the body lengths `length`
unfoldable pub offset_at : (ℕ → ℕ) → ℕ → ℕ
offset_at length zero = standard_header_end
offset_at length (suc k) = next_multiple (capability_end (offset_at length k) (length k))

-- and where it ends
abbrev pub end_at : (ℕ → ℕ) → ℕ → ℕ
end_at length k = capability_end (offset_at length k) (length k)
