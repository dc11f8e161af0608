-- What the power-on image and the masks hold in the capabilities.
use Prim.Native.Nat.{ℕ, ◌+◌, ◌%◌, ◌<◌, ◌≤◌}
use mathlib.Core.Bool.{true, false}
use mathlib.Core.List.{List, [], ◌∷◌, ◌++◌}
use mathlib.Core.Logic.{⊎_elim}
use mathlib.Core.Path.{◌≡◌, sym, ◌∙◌}
use native.Mathlib.Omega.{arith}
use lib.ListN.{get_or}
use Rattle.address.specs.Layout.{bar_count}
use Rattle.word.proofs.Tests.{both, never}
use Rattle.word.proofs.Intervals.{covers_before, covers_within}
use Rattle.bar.specs.declared.bar_state.BarState.{BarState}
use Rattle.capability.specs.Size.{header_size}
use Rattle.capability.specs.Owner.{capability_count, start_of, capability_at}
use Rattle.capability.specs.Mode.{in_capability}
use Rattle.capability.specs.declared.placed.Placed.{Placed}
use Rattle.capability.proofs.Extents.{extent_in, extent_within}
use Rattle.capability.proofs.Modes.{nobody_outside}
use Rattle.config.specs.Admitted.{Admitted}
use Rattle.config.specs.ConfigByte.{byte_count, header_byte, byte_ok}
use Rattle.config.specs.Field.{Field, at, has, byte_at, under}
use Rattle.config.specs.PowerOn.{command_fields, byte_values, byte_masks, bar_fields, list_fields, header_fields, body_field, capability_fields, capability_masks, power_on_of}
use Rattle.config.specs.declared.function.Contents.{Contents}
use Rattle.config.proofs.CommandMasks.{command_none}
use Rattle.config.proofs.Fields.{has_end, has_more, one_has, none_append, under_more, under_one, under_append, under_none}
use Rattle.config.proofs.Headers.{bytes_none}
use Rattle.config.proofs.Images.{late_fields, after_intx, mask_byte}
use Rattle.config.proofs.Layings.{starts_from, ends_inside, start_byte, held_by_one}
use Rattle.config.proofs.Placeable.{Outside, ok_cases, header_bytes}
use Rattle.config.proofs.Places.{group_place, body_place_lem, masks_places}
use Rattle.config.proofs.Stages.{stage_under}
use Rattle.config.proofs.Standing.{byte_under}

-- the fields of one capability
abbrev pub group : Placed → List ℕ → ℕ → List Field
group p bytes i = header_fields p i ++ (body_field p bytes i ∷ [])

module _ (space : ℕ) (f : Contents) (p : Placed) (s : Admitted space f p) where
  -- a place of a capability has what that one's fields say, whatever stood there
  group_under : (bytes : List ℕ) (v i j : ℕ) → i < capability_count p → in_capability p j i ≡ true → ((b : ℕ) → under b (group p bytes i) j ≡ v) → (b : ℕ) → under b (capability_fields p bytes (capability_count p)) j ≡ v
  group_under bytes v i j l e h =
      stage_under (group p bytes) (capability_count p) i j v l (λ k a c. never _ (λ t.
      let z = held_by_one p s.laid i k j l c e (group_place p bytes k j t) in omega arith)) h

  masks_under : (bytes : List ℕ) (i j : ℕ) → i < capability_count p → has (body_field p bytes i) j ≡ true → (b : ℕ) → under b (capability_masks p bytes (capability_count p)) j ≡ byte_at (body_field p bytes i) j
  masks_under bytes i j l e =
      stage_under (λ k. body_field p bytes k ∷ []) (capability_count p) i j (byte_at (body_field p bytes i) j) l (λ k a c. never _ (λ t.
      let z = held_by_one p s.laid i k j l c (body_place_lem p bytes i j e) (body_place_lem p bytes k j (one_has (body_field p bytes k) j t)) in omega arith))
      (λ b. under_one b (body_field p bytes i) j ∙ rw e)

  -- no config byte stands in a capability
  pub held_not_ok : (i j : ℕ) → i < capability_count p → in_capability p j i ≡ true → byte_ok space p j ≡ false
  held_not_ok i j l e =
      never (byte_ok space p j) (λ t.
      ⊎_elim (λ (h : header_byte j ≡ true). header_bytes j h (omega (arith, (extent_within p j i e).from, starts_from p s.laid i l)))
      (λ (o : Outside space p j). both e (nobody_outside p j o.free i l))
      (ok_cases space p j t))

  module _ (bars : List BarState) (i : ℕ) (l : i < capability_count p) where
    abbrev start : ℕ
    start = start_of p i

    abbrev image : List ℕ
    image = (power_on_of space f bars p).image

    abbrev mask : List ℕ
    mask = (power_on_of space f bars p).mask

    -- a place of a capability lies in the space
    held_below : (j : ℕ) → in_capability p j i ≡ true → j < space
    held_below j e = omega (arith, (extent_within p j i e).to, ends_inside p s.laid i l, s.wide)

    -- and in the image it is that one's fields'
    pub group_image : (v j : ℕ) → in_capability p j i ≡ true → ((b : ℕ) → under b (group p f.bodies i) j ≡ v) → get_or image j 0 ≡ v
    group_image v j e h =
        let k = capability_fields p f.bodies (capability_count p) in
        after_intx space f bars p j (held_below j e) ∙ under_append _ (byte_values f (byte_count f)) (late_fields f bars p) j ∙
        under_append _ (bar_fields bars bar_count) (list_fields p ++ k) j ∙ under_append _ (list_fields p) k j ∙ group_under f.bodies v i j l e h _

    -- "At each capability: id, next offset or 0, body"
    pub id_image : get_or image start 0 ≡ (capability_at p i).id % 256
    id_image =
        let next = at (start + 1) 1 (start_of p (i + 1)) in
        let body = body_field p f.bodies i in
        group_image ((capability_at p i).id % 256) start (extent_in p start i (omega arith) (omega arith)) (λ b.
        byte_under b start (capability_at p i).id (next ∷ body ∷ []) (rw (has_more next (body ∷ []) start, has_more body [] start, has_end start, covers_before (start + 1) 1 start (omega arith), covers_before (start + header_size) (capability_at p i).length start (omega arith))))

    pub next_image : get_or image (start + 1) 0 ≡ start_of p (i + 1)
    next_image =
        let body = body_field p f.bodies i in
        group_image (start_of p (i + 1)) (start + 1) (extent_in p (start + 1) i (omega arith) (omega arith)) (λ b.
        under_more b (at start 1 (capability_at p i).id) (at (start + 1) 1 (start_of p (i + 1)) ∷ body ∷ []) (start + 1) ∙
        byte_under _ (start + 1) (start_of p (i + 1)) (body ∷ []) (rw (has_more body [] (start + 1), has_end (start + 1), covers_before (start + header_size) (capability_at p i).length (start + 1) (omega arith))) ∙
        omega (arith, start_byte p s.laid (i + 1)))

    pub body_image : (j : ℕ) → has (body_field p f.bodies i) j ≡ true → get_or image j 0 ≡ byte_at (body_field p f.bodies i) j
    body_image j e =
        let body = body_field p f.bodies i in
        group_image (byte_at body j) j (body_place_lem p f.bodies i j e) (λ b.
        under_append b (header_fields p i) (body ∷ []) j ∙ under_one (under b (header_fields p i) j) body j ∙ rw e)

    -- and "masks": none for its header
    pub body_mask : (j : ℕ) → has (body_field p f.masks i) j ≡ true → get_or mask j 0 ≡ byte_at (body_field p f.masks i) j
    body_mask j e =
        let c = byte_masks f (byte_count f) in
        let m = capability_masks p f.masks (capability_count p) in
        mask_byte space f bars p j (held_below j (body_place_lem p f.masks i j e)) ∙ under_append 0 command_fields (c ++ m) j ∙ under_append _ c m j ∙
        masks_under f.masks i j l e _

    pub header_unmasked : (j : ℕ) → start ≤ j → j < start + header_size → get_or mask j 0 ≡ 0
    header_unmasked j a b =
        let c = byte_masks f (byte_count f) in
        let m = capability_masks p f.masks (capability_count p) in
        let e = extent_in p j i a (omega arith) in
        let low = starts_from p s.laid i l in
        mask_byte space f bars p j (held_below j e) ∙ under_none 0 (command_fields ++ (c ++ m)) j
        (none_append command_fields (c ++ m) j (command_none j (λ q. omega arith) (λ q. omega arith))
        (none_append c m j (bytes_none space f bars p s (λ b. b.mask) j (held_not_ok i j l e)) (never _ (λ t.
        let r = masks_places p f.masks j (capability_count p) t in
        let q = held_by_one p s.laid i r.0 j l r.1 e (body_place_lem p f.masks r.0 j r.2) in
        let w : start_of p i + header_size ≤ j = rw (sym q) at (covers_within (start_of p r.0 + header_size) (capability_at p r.0).length j r.2).from in
        omega arith))))
