-- Refusal 18 of document 01 at a config access, for a config space of `space` bytes.
use Rattle.std.specs.Prelude.{ℕ, ◌%◌, Bool, ◌&&◌, cond, ltb, eqb, Result, Ok, Err}
use Rattle.word.specs.Width.{width_ok}
use Rattle.address.specs.Kinds.{offset}
use Rattle.address.specs.declared.offset.ConfigOffset.{ConfigOffset}
use Rattle.address.specs.declared.access.Access.{Access}
use Rattle.refusal.specs.declared.refusal.Refusal.TheVariants as refusal
use Rattle.refusal.specs.declared.refusal.Refusal.{Refusal}

-- the widest config access
abbrev pub most_width : ℕ
most_width = 4

-- the width is 1, 2 or 4, the offset is in the space and a multiple of the width
unfoldable pub access_ok : ℕ → ℕ → ℕ → Bool
access_ok space o w = width_ok most_width w && (ltb o space && eqb (o % w) 0)

-- what is asked of a config space: where, and how many bytes
abbrev pub access : ConfigOffset → ℕ → Access
access o w = record { offset = o; width = w }

-- what was asked, or refusal 18
unfoldable pub access_of : ℕ → ℕ → ℕ → Result Access Refusal
access_of space o w = cond (access_ok space o w) (Ok (access (offset o) w)) (Err refusal.BadAccess)
