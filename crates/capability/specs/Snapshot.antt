-- A copy of a capability's live body (document 01, "Access and reset": "and a copy of its live body").
use Rattle.std.specs.Prelude.{ℕ, ◌+◌, min, List, get_or, length}
use Rattle.word.specs.Table.{filled}
use Rattle.capability.specs.Size.{body_most, header_size}
use Rattle.capability.specs.Owner.{capability_at, start_of}
use Rattle.capability.specs.declared.placed.Placed.{Placed}
use Rattle.capability.specs.declared.snapshot.Snapshot.{Snapshot}

-- where the body of the capability at an index starts, and how long it is; empty past the last
unfoldable pub body_start : Placed → ℕ → ℕ
body_start p i = start_of p i + header_size

unfoldable pub body_length : Placed → ℕ → ℕ
body_length p i = min (capability_at p i).length body_most

-- the copy: the image's bytes, zero where the image does not reach, and blank past the body
unfoldable pub snapshot_of : Placed → List ℕ → ℕ → Snapshot
snapshot_of p image i = record { length = body_length p i; bytes = filled body_most (body_length p i) (λ k. get_or image (body_start p i + k) 0) 0 }

-- a list's bytes in such a copy, as many as a body may have: the whole of a body (`copy_length`, `copy_byte`)
unfoldable pub copy_of : List ℕ → Snapshot
copy_of bytes = record { length = min (length bytes) body_most; bytes = filled body_most (min (length bytes) body_most) (λ k. get_or bytes k 0) 0 }
