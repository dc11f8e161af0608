-- What the power-on image and the masks hold at config bytes: the later of two at one offset wins, and none is covered again.
use Prim.Native.Nat.{ℕ, ◌%◌, ◌<◌}
use mathlib.Core.Bool.{true, false}
use mathlib.Core.List.{List, [], ◌∷◌, ◌++◌}
use mathlib.Core.Logic.{⊎_elim}
use mathlib.Core.Path.{◌≡◌, ◌∙◌}
use native.Mathlib.Omega.{arith}
use lib.ListN.{get_or}
use Rattle.address.specs.Layout as layout
use Rattle.address.specs.Layout.{bar_count}
use Rattle.word.proofs.Tests.{both, never}
use Rattle.bar.specs.declared.bar_state.BarState.{BarState}
use Rattle.capability.specs.Owner.{capability_count}
use Rattle.capability.specs.declared.placed.Placed.{Placed}
use Rattle.config.specs.Admitted.{Admitted}
use Rattle.config.specs.ConfigByte.{no_config_byte, byte_count, byte_offset, byte_ok, Last}
use Rattle.config.specs.Field.{under}
use Rattle.config.specs.PowerOn.{command_fields, config_field, config_fields, byte_values, byte_masks, bar_fields, list_fields, capability_fields, capability_masks, power_on_of}
use Rattle.config.specs.declared.function.ConfigByte.{ConfigByte}
use Rattle.config.specs.declared.function.Contents.{Contents}
use Rattle.config.proofs.Chains.{held_not_ok}
use Rattle.config.proofs.Fields.{any_has, has_end, one_has, none_append, under_append, under_front}
use Rattle.config.proofs.Images.{late_fields, after_intx, mask_byte}
use Rattle.config.proofs.Placeable.{good_each, ok_below, header_not_ok}
use Rattle.config.proofs.Places.{own_place, bar_places, list_places, capability_places, masks_places, body_place_lem}
use Rattle.config.proofs.Stages.{stage_under}
use Rattle.config.proofs.Standing.{byte_under}

-- a place of config bytes has what the last one there says, whatever stood there
pub config_under : (g : ConfigByte → ℕ) (f : Contents) (i : ℕ) → Last f i → (b : ℕ) → under b (config_fields g f.bytes (byte_count f)) (byte_offset f i) ≡ g (get_or f.bytes i no_config_byte) % 256
config_under g f i l =
    let o = byte_offset f i in
    stage_under (λ k. config_field g (get_or f.bytes k no_config_byte) ∷ []) (byte_count f) i o (g (get_or f.bytes i no_config_byte) % 256) l.below
    (λ k a c. never _ (λ t. l.alone k a c (own_place (byte_offset f k) o (one_has (config_field g (get_or f.bytes k no_config_byte)) o t))))
    (λ b. byte_under b o (g (get_or f.bytes i no_config_byte)) [] (has_end o))

module _ (space : ℕ) (f : Contents) (bars : List BarState) (p : Placed) (s : Admitted space f p) where
  -- what comes after the config bytes leaves their places alone
  module _ (o : ℕ) (ok : byte_ok space p o ≡ true) where
    ok_no_bar : any_has (bar_fields bars bar_count) o ≡ false
    ok_no_bar = never _ (λ t. let w = bar_places bars bar_count o t in both ok (header_not_ok space p o (omega (arith, w.to)) (λ q. omega (arith, w.from)) (λ q. omega (arith, w.from)) (λ q. omega (arith, w.to))))

    ok_no_list : any_has (list_fields p) o ≡ false
    ok_no_list =
        never _ (λ t. ⊎_elim (λ (q : o ≡ layout.status). both ok (header_not_ok space p o (omega arith) (λ e. omega arith) (λ e. omega arith) (λ e. omega arith)))
        (λ (q : o ≡ layout.capability_pointer). both ok (header_not_ok space p o (omega arith) (λ e. omega arith) (λ e. omega arith) (λ e. omega arith))) (list_places p o t))

    ok_no_capability : any_has (capability_fields p f.bodies (capability_count p)) o ≡ false
    ok_no_capability = never _ (λ t. let r = capability_places p f.bodies o (capability_count p) t in both ok (held_not_ok space f p s r.0 o r.1 r.2))

    ok_no_mask : any_has (capability_masks p f.masks (capability_count p)) o ≡ false
    ok_no_mask = never _ (λ t. let r = masks_places p f.masks o (capability_count p) t in both ok (held_not_ok space f p s r.0 o r.1 (body_place_lem p f.masks r.0 o r.2)))

  module _ (i : ℕ) (l : Last f i) where
    abbrev here_ok : byte_ok space p (byte_offset f i) ≡ true
    here_ok = good_each space f p s.checked i l.below

    here_below : byte_offset f i < space
    here_below = ok_below space p (byte_offset f i) (omega (arith, s.wide)) here_ok

    -- the declared value and the declared mask
    pub byte_image : get_or (power_on_of space f bars p).image (byte_offset f i) 0 ≡ (get_or f.bytes i no_config_byte).value % 256
    byte_image =
        let o = byte_offset f i in
        let k = capability_fields p f.bodies (capability_count p) in
        after_intx space f bars p o here_below ∙
        under_front _ (byte_values f (byte_count f)) (late_fields f bars p) o (none_append (bar_fields bars bar_count) (list_fields p ++ k) o (ok_no_bar o here_ok) (none_append (list_fields p) k o (ok_no_list o here_ok) (ok_no_capability o here_ok))) ∙
        config_under (λ b. b.value) f i l _

    pub byte_mask : get_or (power_on_of space f bars p).mask (byte_offset f i) 0 ≡ (get_or f.bytes i no_config_byte).mask % 256
    byte_mask =
        let o = byte_offset f i in
        let c = byte_masks f (byte_count f) in
        let m = capability_masks p f.masks (capability_count p) in
        mask_byte space f bars p o here_below ∙ under_append 0 command_fields (c ++ m) o ∙ under_front _ c m o (ok_no_mask o here_ok) ∙ config_under (λ b. b.mask) f i l _
