-- The power-on image and the masks by their places: a byte is what the last field that has it says.
use Prim.Native.Nat.{ℕ, ◌<◌}
use mathlib.Core.List.{List, ◌++◌}
use mathlib.Core.Path.{◌≡◌, ◌∙◌}
use lib.ListN.{length, get_or}
use Rattle.address.specs.Layout.{bar_count}
use Rattle.bar.specs.declared.bar_state.BarState.{BarState}
use Rattle.capability.specs.Owner.{capability_count}
use Rattle.capability.specs.declared.placed.Placed.{Placed}
use Rattle.config.specs.ConfigByte.{byte_count}
use Rattle.config.specs.Field.{Field, under}
use Rattle.config.specs.PowerOn.{identity_fields, intx_fields, byte_values, bar_fields, list_fields, capability_fields, image_fields, mask_fields, power_on_of}
use Rattle.config.specs.declared.function.Contents.{Contents}
use Rattle.config.proofs.Fields.{under_append, image_at, image_length}

-- what comes after the config bytes
abbrev pub late_fields : Contents → List BarState → Placed → List Field
late_fields f bars p = bar_fields bars bar_count ++ (list_fields p ++ capability_fields p f.bodies (capability_count p))

module _ (space : ℕ) (f : Contents) (bars : List BarState) (p : Placed) where
  pub image_size : length (power_on_of space f bars p).image ≡ space
  unfolding power_on_of
  image_size = image_length space (image_fields f bars p)

  pub mask_size : length (power_on_of space f bars p).mask ≡ space
  unfolding power_on_of
  mask_size = image_length space (mask_fields f p)

  pub image_byte : (j : ℕ) → j < space → get_or (power_on_of space f bars p).image j 0 ≡ under 0 (image_fields f bars p) j
  unfolding power_on_of
  image_byte j h = image_at space (image_fields f bars p) j h

  pub mask_byte : (j : ℕ) → j < space → get_or (power_on_of space f bars p).mask j 0 ≡ under 0 (mask_fields f p) j
  unfolding power_on_of
  mask_byte j h = image_at space (mask_fields f p) j h

  -- the image stage by stage as far as INTx
  pub after_intx : (j : ℕ) → j < space → get_or (power_on_of space f bars p).image j 0 ≡ under (under (under 0 (identity_fields f.identity) j) (intx_fields f.intx) j) (byte_values f (byte_count f) ++ late_fields f bars p) j
  after_intx j h =
      let x = intx_fields f.intx in
      let c = byte_values f (byte_count f) ++ late_fields f bars p in
      image_byte j h ∙ under_append 0 (identity_fields f.identity) (x ++ c) j ∙ under_append (under 0 (identity_fields f.identity) j) x c j
