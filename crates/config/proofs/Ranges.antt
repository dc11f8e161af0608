-- Every byte of the power-on image and of the masks is below 256: so is every byte of each field.
use Prim.Native.Nat.{ℕ, ◌<◌}
use mathlib.Core.Bool.{true, false, cond}
use mathlib.Core.List.{List, [], ◌∷◌, ◌++◌}
use mathlib.Core.Logic.{⊎_elim}
use mathlib.Core.Path.{◌≡◌}
use native.Mathlib.Nat.{mod-lt}
use native.Mathlib.Omega.{arith}
use lib.Dec.{eqb}
use lib.ListN.{get_or}
use Rattle.address.specs.Layout.{bar_count}
use Rattle.word.proofs.Tests.{true_or_false}
use Rattle.bar.specs.declared.bar_state.BarState.{BarState}
use Rattle.capability.specs.Owner.{capability_count}
use Rattle.capability.specs.declared.placed.Placed.{Placed}
use Rattle.config.specs.ConfigByte.{byte_count}
use Rattle.config.specs.Field.{Field, at, has, byte_at, under, fields_below}
use Rattle.config.specs.PowerOn.{intx_fields, config_fields, bar_field, bar_fields, list_fields, capability_fields, capability_masks, power_on_of}
use Rattle.config.specs.State.{bar_at}
use Rattle.config.specs.declared.function.ConfigByte.{ConfigByte}
use Rattle.config.specs.declared.function.Contents.{Contents}
use Rattle.config.specs.declared.function.Intx.{Intx}
use Rattle.std.proofs.Common.{Option, None, Some}
use Rattle.config.proofs.Fields.{under_end, under_more}
use Rattle.config.proofs.Stages.{stage_by}
use Rattle.config.proofs.Images.{image_byte, mask_byte}

-- fields whose bytes are bytes
data Bytes : List Field → Type 0 where
  none : Bytes []
  more : {f : Field} {fs : List Field} → ((j : ℕ) → byte_at f j < 256) → Bytes fs → Bytes (f ∷ fs)

bytes_append : {fs gs : List Field} → Bytes fs → Bytes gs → Bytes (fs ++ gs)
bytes_append none c = c
bytes_append (more h b) c = more h (bytes_append b c)

under_byte : (b : ℕ) {fs : List Field} (j : ℕ) → Bytes fs → b < 256 → under b fs j < 256
under_byte b j none h = rw (under_end b j) h
under_byte b j (more {f} {fs} k c) h =
    rw (under_more b f fs j)
    (under_byte (cond (has f j) (byte_at f j) b) j c
    (⊎_elim (λ (t : has f j ≡ true). rw t (k j)) (λ (t : has f j ≡ false). rw t h) (true_or_false (has f j))))

at_bytes : {o w v : ℕ} {fs : List Field} → Bytes fs → Bytes (at o w v ∷ fs)
at_bytes {o} {w} {v} b = more (λ j. mod-lt _ (omega arith)) b

-- and those of a stage
stage_bytes : (f : ℕ → List Field) → ((i : ℕ) → Bytes (f i)) → (n : ℕ) → Bytes (fields_below f n)
stage_bytes f h n = stage_by f Bytes none (λ fs gs a b. bytes_append a b) h n

config_bytes_lem : (g : ConfigByte → ℕ) (bytes : List ConfigByte) (n : ℕ) → Bytes (config_fields g bytes n)
config_bytes_lem g bytes n = stage_bytes _ (λ i. at_bytes none) n

intx_bytes : (x : Option Intx) → Bytes (intx_fields x)
intx_bytes None = none
intx_bytes (Some x) = at_bytes (at_bytes none)

bar_bytes : (b : BarState) (n : ℕ) → Bytes (bar_field b n)
bar_bytes b n =
    ⊎_elim (λ (t : eqb b.plan.size 0 ≡ true). rw t none) (λ (t : eqb b.plan.size 0 ≡ false). rw t (at_bytes none)) (true_or_false (eqb b.plan.size 0))

bars_bytes : (bars : List BarState) (n : ℕ) → Bytes (bar_fields bars n)
bars_bytes bars n = stage_bytes _ (λ i. bar_bytes (bar_at bars i) i) n

list_bytes : (p : Placed) → Bytes (list_fields p)
list_bytes p =
    ⊎_elim (λ (t : eqb (capability_count p) 0 ≡ true). rw t none) (λ (t : eqb (capability_count p) 0 ≡ false). rw t (at_bytes (at_bytes none))) (true_or_false (eqb (capability_count p) 0))

module _ (p : Placed) (bytes : List ℕ) (h : (k : ℕ) → get_or bytes k 0 < 256) where
  capability_bytes : (n : ℕ) → Bytes (capability_fields p bytes n)
  capability_bytes n = stage_bytes _ (λ i. at_bytes (at_bytes (more (λ j. h _) none))) n

  masks_bytes : (n : ℕ) → Bytes (capability_masks p bytes n)
  masks_bytes n = stage_bytes _ (λ i. more (λ j. h _) none) n

module _ (space : ℕ) (f : Contents) (bars : List BarState) (p : Placed) (j : ℕ) (b : j < space) where
  pub image_lt : ((k : ℕ) → get_or f.bodies k 0 < 256) → get_or (power_on_of space f bars p).image j 0 < 256
  image_lt h =
      rw (image_byte space f bars p j b)
      (under_byte 0 j (bytes_append (at_bytes (at_bytes (at_bytes (at_bytes (at_bytes (at_bytes (at_bytes (at_bytes (at_bytes none))))))))) (bytes_append (intx_bytes f.intx) (bytes_append (config_bytes_lem (λ b. b.value) f.bytes (byte_count f)) (bytes_append (bars_bytes bars bar_count) (bytes_append (list_bytes p) (capability_bytes p f.bodies h (capability_count p))))))) (omega arith))

  pub mask_lt : ((k : ℕ) → get_or f.masks k 0 < 256) → get_or (power_on_of space f bars p).mask j 0 < 256
  mask_lt h =
      rw (mask_byte space f bars p j b)
      (under_byte 0 j (bytes_append (at_bytes (at_bytes none)) (bytes_append (config_bytes_lem (λ b. b.mask) f.bytes (byte_count f)) (masks_bytes p f.masks h (capability_count p)))) (omega arith))
