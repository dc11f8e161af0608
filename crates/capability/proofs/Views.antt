-- What a view says: its tests one by one, and that the last one never fails on what a layout gives.
use Prim.Native.Nat.{ℕ, ◌+◌, ◌<◌, ◌≤◌}
use mathlib.Core.Bool.{Bool, true, false, ◌&&◌, and-false, cond}
use mathlib.Core.List.{List, []}
use mathlib.Core.Path.{◌≡◌, refl, ap, ◌∙◌}
use native.Mathlib.Omega.{arith}
use borrow.Author.Tests.{ltb-true, leb-true, eqb-true, lt-ltb, lt-leb, le-leb, le-ltb, eq-eqb, ne_eqb}
use lib.Dec.{ltb, leb, eqb}
use lib.ListN.{length, get_or, drop, length-take, length-drop}
use lib.Seq.{get_or-take, get_or-drop}
use Rattle.std.proofs.Common.{Some, None, unwrap_or}
use Rattle.word.proofs.Tests.{and_left, and_right}
use Rattle.capability.specs.Size.{body_most}
use Rattle.capability.specs.Layout.{layout_of, placed_or_nothing}
use Rattle.capability.specs.Owner.{capability_count}
use Rattle.capability.specs.Snapshot.{body_start, body_length, copy_of}
use Rattle.capability.specs.View.{viewed, Seen, body_in, body_of, view_of, view_copy}
use Rattle.capability.specs.Laid.{Laid}
use Rattle.capability.specs.declared.declared.Capabilities.{Capabilities}
use Rattle.capability.specs.declared.placed.Placed.{Placed}
use Rattle.capability.specs.declared.snapshot.Snapshot.{Snapshot}
use Rattle.capability.specs.declared.view.ViewCopy.{ViewCopy}
use Rattle.capability.proofs.Laids.{layout_laid}
use Rattle.capability.proofs.Snapshots.{copy_length, copy_byte}

-- a body is never longer than the longest
pub body_most_lem : (p : Placed) (i : ℕ) → body_length p i ≤ body_most
unfolding body_length
body_most_lem p i = omega arith

module _ (p : Placed) (i : ℕ) (live power : List ℕ) (space : ℕ) where
  abbrev there : Bool
  there = ltb i (capability_count p)

  abbrev rest_live : Bool
  rest_live = eqb (length live) space && (eqb (length power) space && leb (body_start p i + body_length p i) space)

  abbrev rest_power : Bool
  rest_power = eqb (length power) space && leb (body_start p i + body_length p i) space

  -- there is a view exactly under these four
  pub viewed_seen : viewed p i live power space ≡ true → Seen p i live power space
  unfolding viewed
  viewed_seen e =
      let a = and_right there rest_live e in
      let b = and_right (eqb (length live) space) rest_power a in
      record { present = ltb-true i (capability_count p) (and_left there rest_live e); live_whole = eqb-true (length live) space (and_left (eqb (length live) space) rest_power a); power_whole = eqb-true (length power) space (and_left (eqb (length power) space) (leb (body_start p i + body_length p i) space) b); ends = leb-true (body_start p i + body_length p i) space (and_right (eqb (length power) space) (leb (body_start p i + body_length p i) space) b) }

  pub seen_viewed : Seen p i live power space → viewed p i live power space ≡ true
  unfolding viewed
  seen_viewed s = rw (lt-ltb i (capability_count p) s.present, eq-eqb (length live) space s.live_whole, eq-eqb (length power) space s.power_whole, le-leb (body_start p i + body_length p i) space s.ends)

  -- none, for each of the reasons of document 01
  pub none_past : capability_count p ≤ i → viewed p i live power space ≡ false
  unfolding viewed
  none_past h = rw (le-ltb i (capability_count p) h)

  pub none_live : (length live ≡ space → ⊥) → viewed p i live power space ≡ false
  unfolding viewed
  none_live h = rw (ne_eqb (length live) space h) (and-false there)

  pub none_power : (length power ≡ space → ⊥) → viewed p i live power space ≡ false
  unfolding viewed
  none_power h = rw (ne_eqb (length power) space h, and-false (eqb (length live) space)) (and-false there)

  pub none_end : space < body_start p i + body_length p i → viewed p i live power space ≡ false
  unfolding viewed
  none_end h = rw (lt-leb (body_start p i + body_length p i) space h, and-false (eqb (length power) space), and-false (eqb (length live) space)) (and-false there)

  -- the view is the body in the image that is asked for
  pub view_seen : (fromLive : Bool) → Seen p i live power space → view_of p i live power space fromLive ≡ Some (body_in p i (cond fromLive live power))
  unfolding view_of
  view_seen fromLive s = rw (seen_viewed s)

  pub view_none : (fromLive : Bool) → viewed p i live power space ≡ false → view_of p i live power space fromLive ≡ None
  unfolding view_of
  view_none fromLive e = rw e

  -- what is shown
  pub shown_live : viewed p i live power space ≡ true → body_of p i live power space true ≡ body_in p i live
  unfolding body_of view_of
  shown_live e = rw e

  pub shown_power : viewed p i live power space ≡ true → body_of p i live power space false ≡ body_in p i power
  unfolding body_of view_of
  shown_power e = rw e

  pub shown_none : (fromLive : Bool) → viewed p i live power space ≡ false → body_of p i live power space fromLive ≡ []
  unfolding body_of view_of
  shown_none fromLive e = rw e

-- byte k of a body stands at the body's start plus k, in either image
pub body_byte : (p : Placed) (i : ℕ) (image : List ℕ) (k : ℕ) → k < body_length p i → get_or (body_in p i image) k 0 ≡ get_or image (body_start p i + k) 0
unfolding body_in
body_byte p i image k h = get_or-take (body_length p i) (drop (body_start p i) image) k 0 h ∙ get_or-drop (body_start p i) image k 0

-- and it is as long as it is declared, where it ends in the image
pub body_long_lem : (p : Placed) (i : ℕ) (image : List ℕ) → body_start p i + body_length p i ≤ length image → length (body_in p i image) ≡ body_length p i
unfolding body_in
body_long_lem p i image h = simp (length-take, length-drop) (omega arith)

-- what a view shows fits into a copy, whichever image it is from
fits_by : (t : Bool) (p : Placed) (i : ℕ) (image : List ℕ) → length (unwrap_or (cond t (Some (body_in p i image)) None) []) ≤ body_most
unfolding body_in
fits_by true p i image = omega (arith, length-take (body_length p i) (drop (body_start p i) image), body_most_lem p i)
fits_by false p i image = omega arith

module _ (p : Placed) (i : ℕ) (live power : List ℕ) (space : ℕ) (fromLive : Bool) where
  abbrev body : List ℕ
  body = body_of p i live power space fromLive

  abbrev copy : ViewCopy
  copy = view_copy (view_of p i live power space fromLive)

  view_fits : length body ≤ body_most
  unfolding body_of view_of
  view_fits = fits_by (viewed p i live power space) p i (cond fromLive live power)

  copied_by : (t : Bool) → viewed p i live power space ≡ t → copy.body ≡ copy_of body
  unfolding view_of body_of
  copied_by true e = rw e
  copied_by false e = rw e

  copied : copy.body ≡ copy_of body
  copied = copied_by (viewed p i live power space) refl

  -- so nothing of a view is lost in its copy
  pub view_copy_length : copy.body.length ≡ length body
  view_copy_length = ap (λ (x : Snapshot). x.length) copied ∙ copy_length body view_fits

  pub view_copy_byte : (k : ℕ) → k < length body → get_or copy.body.bytes k 0 ≡ get_or body k 0
  view_copy_byte k h = ap (λ (x : Snapshot). get_or x.bytes k 0) copied ∙ copy_byte body view_fits k h

-- in what a layout gives the body always ends in the space: so there is none for document 01's two reasons only, an index past the last and an image of another length
pub laid_viewed : (space : ℕ) (p : Placed) → Laid space p → (i : ℕ) (live power : List ℕ) → i < p.count → length live ≡ space → length power ≡ space → viewed p i live power space ≡ true
unfolding body_start body_length
laid_viewed space p l i live power h a b =
    seen_viewed p i live power space (record { present = omega (arith, l.counted); live_whole = a; power_whole = b; ends = omega (arith, l.inside i h) })

pub layout_viewed : (space : ℕ) (d : Capabilities) (i : ℕ) (live power : List ℕ) → i < (placed_or_nothing (layout_of space d)).count → length live ≡ space → length power ≡ space → viewed (placed_or_nothing (layout_of space d)) i live power space ≡ true
layout_viewed space d = laid_viewed space (placed_or_nothing (layout_of space d)) (layout_laid space d)
