-- The identity in the power-on image: each of its numbers reads back.
use Prim.Native.Nat.{ℕ, ◌+◌, ◌%◌, ◌^◌, ◌≤◌}
use mathlib.Core.Bool.{true}
use mathlib.Core.List.{List}
use mathlib.Core.Path.{◌≡◌, refl, ◌∙◌}
use native.Mathlib.Omega.{arith}
use lib.ListN.{get_or}
use Rattle.address.specs.Layout as layout
use Rattle.word.specs.Number.{read_at}
use Rattle.word.proofs.ReadBytes.{read_bytes}
use Rattle.bar.specs.declared.bar_state.BarState.{BarState}
use Rattle.capability.specs.declared.placed.Placed.{Placed}
use Rattle.config.specs.Admitted.{Admitted}
use Rattle.config.specs.Field.{under}
use Rattle.config.specs.PowerOn.{identity_fields, intx_fields, list_fields, power_on_of}
use Rattle.config.specs.declared.function.Contents.{Contents}
use Rattle.config.specs.declared.function.Identity.{Identity}
use Rattle.config.proofs.Fields.{any_has, under_none}
use Rattle.config.proofs.Headers.{header_of, intx_none, list_none, header_image}
use Rattle.config.proofs.Images.{image_size}
use Rattle.config.proofs.Places.{identity_places}
use Rattle.config.proofs.Standing.{clear, Stands, here, later, stands_has, stands_under}

-- the fields of the identity, each with its number
module _ (i : Identity) where
  pub vendor_stands : Stands layout.vendor_id 2 i.vendor (identity_fields i)
  unfolding clear
  vendor_stands = here refl

  pub device_stands : Stands layout.device_id 2 i.device (identity_fields i)
  unfolding clear
  device_stands = later (here refl)

  pub revision_stands : Stands layout.revision 1 i.revision (identity_fields i)
  unfolding clear
  revision_stands = later (later (here refl))

  pub interface_stands : Stands layout.programming_interface 1 i.programming_interface (identity_fields i)
  unfolding clear
  interface_stands = later (later (later (here refl)))

  pub subclass_stands : Stands layout.subclass 1 i.subclass (identity_fields i)
  unfolding clear
  subclass_stands = later (later (later (later (here refl))))

  pub base_class_stands : Stands layout.base_class 1 i.base_class (identity_fields i)
  unfolding clear
  base_class_stands = later (later (later (later (later (here refl)))))

  pub header_type_stands : Stands layout.header_type 1 0 (identity_fields i)
  unfolding clear
  header_type_stands = later (later (later (later (later (later (here refl))))))

  pub subsystem_vendor_stands : Stands layout.subsystem_vendor_id 2 i.subsystem_vendor (identity_fields i)
  unfolding clear
  subsystem_vendor_stands = later (later (later (later (later (later (later (here refl)))))))

  pub subsystem_stands : Stands layout.subsystem_device_id 2 i.subsystem (identity_fields i)
  unfolding clear
  subsystem_stands = later (later (later (later (later (later (later (later (here refl))))))))

module _ (space : ℕ) (f : Contents) (bars : List BarState) (p : Placed) (s : Admitted space f p) where
  -- no later stage lies over it
  pub identity_image : (j : ℕ) → any_has (identity_fields f.identity) j ≡ true → get_or (power_on_of space f bars p).image j 0 ≡ under 0 (identity_fields f.identity) j
  identity_image j e =
      let a = identity_places f.identity j e in
      let u = under 0 (identity_fields f.identity) j in
      header_image space f bars p s j (header_of j (omega (arith, a.low)) (λ q. omega (arith, a.low)) a.no_byte) a.no_bar ∙
      under_none (under u (intx_fields f.intx) j) (list_fields p) j (list_none p j a.no_status (λ q. omega (arith, a.low))) ∙
      under_none u (intx_fields f.intx) j (intx_none f.intx j (omega (arith, a.low)))

  -- so a read of a field's width gives its number
  pub identity_reads : (o w v : ℕ) → w ≤ 8 → o + w ≤ space → Stands o w v (identity_fields f.identity) → read_at (power_on_of space f bars p).image o w ≡ v % 256 ^ w
  identity_reads o w v h b t =
      read_bytes (power_on_of space f bars p).image o w v h (rw (image_size space f bars p) b) (λ k l. identity_image (o + k) (stands_has k t l) ∙ stands_under 0 k t l)
