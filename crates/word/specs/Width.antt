-- The widths of an access.
use Rattle.std.specs.Prelude.{ℕ, Bool, ◌&&◌, ◌||◌, leb, eqb}

-- 1, 2, 4 or 8 bytes, and no more than `most`: 4 at a config access, 8 at a memory lookup (document 01, refusal 18)
unfoldable pub width_ok : ℕ → ℕ → Bool
width_ok most w = leb w most && (eqb w 1 || (eqb w 2 || (eqb w 4 || eqb w 8)))
