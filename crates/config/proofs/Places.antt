-- Which places each stage of the power-on image has.
use Prim.Native.Nat.{ℕ, suc, ◌+◌, ◌*◌, ◌<◌, ◌≤◌}
use mathlib.Core.Bool.{Bool, true, false}
use mathlib.Core.List.{List, [], ◌∷◌, ◌++◌}
use mathlib.Core.Logic.{◌⊎◌, inl, inr, ⊎_elim}
use mathlib.Core.Path.{◌≡◌, refl}
use native.Mathlib.Omega.{arith}
use lib.Dec.{eqb}
use lib.ListN.{get_or}
use Rattle.address.specs.Kinds.{slot, register_of}
use Rattle.address.specs.Layout as layout
use Rattle.word.specs.Interval.{covers}
use Rattle.word.proofs.Tests.{below_or_not, true_or_false, both}
use Rattle.word.proofs.Intervals.{Within, covers_within}
use Rattle.bar.specs.declared.bar_state.BarState.{BarState}
use Rattle.capability.specs.Size.{header_size}
use Rattle.capability.specs.Owner.{capability_count, start_of, capability_at}
use Rattle.capability.specs.Mode.{in_capability}
use Rattle.capability.specs.declared.placed.Placed.{Placed}
use Rattle.capability.proofs.Extents.{extent_in}
use Rattle.config.specs.Command.{command_low, command_high}
use Rattle.config.specs.ConfigByte.{no_config_byte}
use Rattle.config.specs.Field.{at, has}
use Rattle.config.specs.PowerOn.{identity_fields, intx_fields, command_fields, config_field, config_fields, bar_field, bar_fields, list_fields, header_fields, body_field, capability_fields, capability_masks}
use Rattle.config.specs.State.{bar_at}
use Rattle.config.specs.declared.function.ConfigByte.{ConfigByte}
use Rattle.config.specs.declared.function.Identity.{Identity}
use Rattle.config.specs.declared.function.Intx.{Intx}
use Rattle.std.proofs.Common.{Option, None, Some}
use Rattle.config.proofs.Fields.{any_has, none_has, one_has, first_of, one_of}
use Rattle.config.proofs.Stages.{stage_has}
use Rattle.config.proofs.Standing.{clear, clear_none}

-- a field of one byte has its own place only
pub own_place : (o j : ℕ) → covers o 1 j ≡ true → j ≡ o
own_place o j e = let w = covers_within o 1 j e in omega (arith, w.from, w.to)

-- config bytes stand where each may
pub config_places : (q : ℕ → Bool) (f : ConfigByte → ℕ) (bytes : List ConfigByte) (n j : ℕ) → ((i : ℕ) → i < n → q (get_or bytes i no_config_byte).offset.0 ≡ true) → any_has (config_fields f bytes n) j ≡ true → q j ≡ true
config_places q f bytes n j h e =
    let r = stage_has (λ i. config_field f (get_or bytes i no_config_byte) ∷ []) n j e in
    rw (own_place (get_or bytes r.0 no_config_byte).offset.0 j (one_has (config_field f (get_or bytes r.0 no_config_byte)) j r.2)) (h r.0 r.1)

-- a place of a BAR's register
pub bar_place : (b : BarState) (n j : ℕ) → any_has (bar_field b n) j ≡ true → Within (register_of (slot n)) layout.bar_register_size j
bar_place b n j e =
    ⊎_elim (λ (t : eqb b.plan.size 0 ≡ true). none_has j (rw t at e)) (λ (t : eqb b.plan.size 0 ≡ false). covers_within (register_of (slot n)) layout.bar_register_size j (one_has _ j (rw t at e))) (true_or_false (eqb b.plan.size 0))

pub bar_places : (bars : List BarState) (n j : ℕ) → any_has (bar_fields bars n) j ≡ true → Within layout.bar_start (layout.bar_register_size * n) j
bar_places bars n j e =
    let r = stage_has (λ i. bar_field (bar_at bars i) i) n j e in
    let w = bar_place (bar_at bars r.0) r.0 j r.2 in
    record { from = omega (arith, w.from); to = omega (arith, w.to, r.1) }

pub intx_places : (x : Option Intx) (j : ℕ) → any_has (intx_fields x) j ≡ true → Within layout.interrupt_line 2 j
intx_places None j e = none_has j e
intx_places (Some x) j e =
    ⊎_elim (λ t. let w = covers_within layout.interrupt_line 1 j t in record { from = omega (arith, w.from); to = omega (arith, w.to) })
    (λ t. let w = covers_within layout.interrupt_pin 1 j (one_has (at layout.interrupt_pin 1 x.pin) j t) in record { from = omega (arith, w.from); to = omega (arith, w.to) })
    (first_of (at layout.interrupt_line 1 x.line) (at layout.interrupt_pin 1 x.pin ∷ []) j e)

pub command_places : (j : ℕ) → any_has command_fields j ≡ true → (j ≡ layout.command) ⊎ (j ≡ (layout.command + 1))
command_places j e =
    ⊎_elim (λ u. inl (own_place layout.command j u)) (λ u. inr (own_place (layout.command + 1) j (one_has (at (layout.command + 1) 1 command_high) j u))) (first_of (at layout.command 1 command_low) (at (layout.command + 1) 1 command_high ∷ []) j e)

pub list_places : (p : Placed) (j : ℕ) → any_has (list_fields p) j ≡ true → (j ≡ layout.status) ⊎ (j ≡ layout.capability_pointer)
list_places p j e =
    ⊎_elim (λ (t : eqb (capability_count p) 0 ≡ true). none_has j (rw t at e))
    (λ (t : eqb (capability_count p) 0 ≡ false).
    ⊎_elim (λ u. inl (own_place layout.status j u)) (λ u. inr (own_place layout.capability_pointer j (one_has (at layout.capability_pointer 1 (start_of p 0)) j u))) (first_of (at layout.status 1 layout.capabilities_list) (at layout.capability_pointer 1 (start_of p 0) ∷ []) j (rw t at e)))
    (true_or_false (eqb (capability_count p) 0))

-- the fields of a capability lie in it, its body and its masks past its header
pub body_place_lem : (p : Placed) (bytes : List ℕ) (i j : ℕ) → has (body_field p bytes i) j ≡ true → in_capability p j i ≡ true
body_place_lem p bytes i j e =
    let w = covers_within (start_of p i + header_size) (capability_at p i).length j e in
    extent_in p j i (omega (arith, w.from)) (omega (arith, w.to))

header_place : (p : Placed) (i j : ℕ) → any_has (header_fields p i) j ≡ true → in_capability p j i ≡ true
header_place p i j e =
    ⊎_elim (λ t. let q = own_place (start_of p i) j t in extent_in p j i (omega arith) (omega arith))
    (λ t. let q = own_place (start_of p i + 1) j (one_has (at (start_of p i + 1) 1 (start_of p (i + 1))) j t) in extent_in p j i (omega arith) (omega arith))
    (first_of (at (start_of p i) 1 (capability_at p i).id) (at (start_of p i + 1) 1 (start_of p (i + 1)) ∷ []) j e)

pub group_place : (p : Placed) (bytes : List ℕ) (i j : ℕ) → any_has (header_fields p i ++ (body_field p bytes i ∷ [])) j ≡ true → in_capability p j i ≡ true
group_place p bytes i j e =
    ⊎_elim (λ u. header_place p i j u) (λ u. body_place_lem p bytes i j (one_has (body_field p bytes i) j u)) (one_of (header_fields p i) (body_field p bytes i ∷ []) j e)

module _ (p : Placed) (bytes : List ℕ) (j n : ℕ) where
  pub capability_places : any_has (capability_fields p bytes n) j ≡ true → (i : ℕ) × (i < n) × (in_capability p j i ≡ true)
  capability_places e =
      let r = stage_has (λ i. header_fields p i ++ (body_field p bytes i ∷ [])) n j e in
      (r.0, r.1, group_place p bytes r.0 j r.2)

  -- masks lie in bodies
  pub masks_places : any_has (capability_masks p bytes n) j ≡ true → (i : ℕ) × (i < n) × (has (body_field p bytes i) j ≡ true)
  masks_places e =
      let r = stage_has (λ i. body_field p bytes i ∷ []) n j e in
      (r.0, r.1, one_has (body_field p bytes r.0) j r.2)

-- a place of the identity: none of a config byte, of a BAR, of the list or of INTx
pub record Identified (j : ℕ) : Type 0 where
  pub low : j < layout.subsystem_device_id + 2
  pub no_byte : (j < layout.cache_line_size) ⊎ (layout.header_type ≤ j)
  pub no_bar : (j < layout.bar_start) ⊎ (layout.bar_end ≤ j)
  pub no_status : j ≡ layout.status → ⊥

-- no place from o up to e is one, where no field of the identity lies there
identity_gap : (i : Identity) (o w j : ℕ) {A : Type 0} → clear (identity_fields i) o w ≡ true → o ≤ j → j < o + w → any_has (identity_fields i) j ≡ true → A
identity_gap i o w j c a b e = absurd (both e (clear_none (identity_fields i) o w j c a b))

pub identity_places : (i : Identity) (j : ℕ) → any_has (identity_fields i) j ≡ true → Identified j
unfolding clear
identity_places i j e =
    ⊎_elim (λ a. record { low = omega arith; no_byte = inl (omega arith); no_bar = inl (omega arith); no_status = λ q. omega arith }) (λ a.
    ⊎_elim (λ b. identity_gap i layout.command 4 j refl a b e) (λ b.
    ⊎_elim (λ c. record { low = omega arith; no_byte = inl c; no_bar = inl (omega arith); no_status = λ q. omega arith }) (λ c.
    ⊎_elim (λ d. identity_gap i layout.cache_line_size 2 j refl c d e) (λ d.
    ⊎_elim (λ f. record { low = omega arith; no_byte = inr d; no_bar = inl (omega arith); no_status = λ q. omega arith }) (λ f.
    ⊎_elim (λ g. identity_gap i (layout.header_type + 1) 0x1d j refl f g e) (λ g.
    ⊎_elim (λ h. record { low = h; no_byte = inr (omega arith); no_bar = inr (omega arith); no_status = λ q. omega arith }) (λ h. identity_gap i (layout.subsystem_device_id + 2) (suc j) j refl h (omega arith) e)
    (below_or_not j (layout.subsystem_device_id + 2))) (below_or_not j layout.subsystem_vendor_id)) (below_or_not j (layout.header_type + 1))) (below_or_not j layout.header_type)) (below_or_not j layout.cache_line_size)) (below_or_not j layout.revision)) (below_or_not j layout.command)
