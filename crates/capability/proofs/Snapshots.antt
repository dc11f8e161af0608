-- A copy of a body, byte by byte.
use Prim.Native.Nat.{ℕ, ◌+◌, ◌<◌, ◌≤◌, min}
use mathlib.Core.List.{List}
use mathlib.Core.Path.{◌≡◌}
use native.Mathlib.Omega.{arith}
use lib.ListN.{length, get_or}
use Rattle.word.proofs.Tables.{filled_at, filled_past}
use Rattle.capability.specs.Size.{body_most}
use Rattle.capability.specs.Snapshot.{body_start, body_length, snapshot_of, copy_of}
use Rattle.capability.specs.declared.placed.Placed.{Placed}

-- byte k of a snapshot: the live body's, and blank past the length
pub snapshot_byte : (p : Placed) (image : List ℕ) (i k : ℕ) → k < body_length p i → get_or (snapshot_of p image i).bytes k 0 ≡ get_or image (body_start p i + k) 0
unfolding snapshot_of body_length
snapshot_byte p image i k h = filled_at body_most (λ k. get_or image (body_start p i + k) 0) 0 (body_length p i) k 0 (omega arith) h

pub snapshot_blank : (p : Placed) (image : List ℕ) (i k : ℕ) → k < body_most → body_length p i ≤ k → get_or (snapshot_of p image i).bytes k 0 ≡ 0
unfolding snapshot_of
snapshot_blank p image i k l h = filled_past body_most (λ k. get_or image (body_start p i + k) 0) 0 (body_length p i) k 0 l h

-- a list that is no longer than a body may be is copied whole: its length, and each of its bytes
module _ (bytes : List ℕ) (h : length bytes ≤ body_most) where
  pub copy_length : (copy_of bytes).length ≡ length bytes
  unfolding copy_of
  copy_length = omega arith

  pub copy_byte : (k : ℕ) → k < length bytes → get_or (copy_of bytes).bytes k 0 ≡ get_or bytes k 0
  unfolding copy_of
  copy_byte k l = filled_at body_most (λ k. get_or bytes k 0) 0 (min (length bytes) body_most) k 0 (omega arith) (omega arith)
