-- Capability views (document 01, "Power-on image": "A capability view hands back the body from the live image or from the power-on image, as asked. A capability index past the last, or a lent image that isn't 256 bytes long, is answered by none, which differs from an empty body").
use Rattle.std.specs.Prelude.{Option, Some, None, ℕ, ◌+◌, ◌<◌, ◌≤◌, Bool, true, false, ◌&&◌, cond, List, [], ◌≡◌, ltb, leb, eqb, length, take, drop, unwrap_or}
use Rattle.capability.specs.Owner.{capability_count}
use Rattle.capability.specs.Snapshot.{body_start, body_length, copy_of}
use Rattle.capability.specs.declared.placed.Placed.{Placed}
use Rattle.capability.specs.declared.view.ViewCopy.{ViewCopy}

-- whether there is a view: the index is not past the last capability, both images are as long as the config space, and the body ends in it (which it does in what the layout gives: `layout_viewed`)
unfoldable pub viewed : Placed → ℕ → List ℕ → List ℕ → ℕ → Bool
viewed p i live powerOn space =
    ltb i (capability_count p) && (eqb (length live) space && (eqb (length powerOn) space && leb (body_start p i + body_length p i) space))

-- the same in words
pub record Seen (p : Placed) (i : ℕ) (live powerOn : List ℕ) (space : ℕ) : Type 0 where
  pub present : i < capability_count p
  pub live_whole : length live ≡ space
  pub power_whole : length powerOn ≡ space
  pub ends : body_start p i + body_length p i ≤ space

-- the part of an image that is the body: the same offsets in either
unfoldable pub body_in : Placed → ℕ → List ℕ → List ℕ
body_in p i image = take (body_length p i) (drop (body_start p i) image)

-- the view: an absent one differs from an empty body
unfoldable pub view_of : Placed → ℕ → List ℕ → List ℕ → ℕ → Bool → Option (List ℕ)
view_of p i live powerOn space fromLive = cond (viewed p i live powerOn space) (Some (body_in p i (cond fromLive live powerOn))) None

-- what a view shows: the body in the image that is asked for, nothing where there is none
unfoldable pub body_of : Placed → ℕ → List ℕ → List ℕ → ℕ → Bool → List ℕ
body_of p i live powerOn space fromLive = unwrap_or (view_of p i live powerOn space fromLive) []

-- a view, copied
abbrev pub view_copy : Option (List ℕ) → ViewCopy
view_copy (Some body) = record { found = true; body = copy_of body }
view_copy None = record { found = false; body = copy_of [] }
