-- The sizes of a capability (document 01, "Power-on image" and refusal 10).
use Rattle.std.specs.Prelude.{ℕ, Bool, ltb}

-- "At each capability: id, next offset or 0, body": two bytes before the body
abbrev pub header_size : ℕ
header_size = 2

-- "capability body above 253 bytes" is refused
abbrev pub body_most : ℕ
body_most = 253

-- refusal 10: "capability body above 253 bytes"
abbrev pub too_long : ℕ → Bool
too_long length = ltb body_most length
