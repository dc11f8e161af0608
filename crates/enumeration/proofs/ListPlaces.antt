-- The places of the list read as they were declared: status, pointer, and the two bytes before the body of each capability.
use Prim.Native.Nat.{ℕ, ◌+◌, ◌%◌, ◌<◌, ◌≤◌}
use mathlib.Core.Bool.{true, false, cond}
use mathlib.Core.List.{List}
use mathlib.Core.Logic.{inl, inr, ⊎_elim}
use mathlib.Core.Path.{◌≡◌, refl, ◌∙◌}
use native.Mathlib.Nat.{mod-lt, mod-eq_of_lt}
use native.Mathlib.Omega.{arith}
use lib.Dec.{eqb}
use lib.ListN.{get_or}
use Rattle.std.proofs.Common.{None, Ok}
use Rattle.word.specs.Number.{byte_of}
use Rattle.word.specs.Width.{width_ok}
use Rattle.word.proofs.Tests.{below_or_not, true_or_false}
use Rattle.address.specs.Layout as layout
use Rattle.address.specs.Layout.{config_space_size}
use Rattle.address.specs.Check.{access_ok}
use Rattle.address.proofs.Accesses.{Aligned, ok_aligned}
use Rattle.bar.specs.declared.bar_state.BarState.{BarState}
use Rattle.capability.specs.Layout.{placed_of}
use Rattle.capability.specs.Owner.{capability_count, capability_at, start_of}
use Rattle.capability.specs.Size.{header_size}
use Rattle.capability.specs.Touch.{touch_of}
use Rattle.capability.specs.declared.placed.Placed.{Placed}
use Rattle.capability.proofs.Untouched.{header_untouched}
use Rattle.config.specs.Admitted.{Admitted}
use Rattle.config.specs.State.{in_bar}
use Rattle.config.specs.declared.function.Function.{Function}
use Rattle.config.specs.declared.state.FunctionState.{FunctionState}
use Rattle.config.proofs.Chains.{header_unmasked, id_image, next_image}
use Rattle.config.proofs.Headers.{header_of}
use Rattle.config.proofs.Layings.{starts_from, ends_inside, start_byte}
use Rattle.config.proofs.Listed.{status_image, status_high, pointer_image}
use Rattle.config.proofs.Slots.{bar_after}
use Rattle.declaration.specs.declared.answer.Declaration.{Declaration}
use Rattle.bus.specs.Bus.{function_at}
use Rattle.bus.specs.Sound.{Sound}
use Rattle.bus.specs.Start.{declared_function, bars_placed, addresses_in}
use Rattle.bus.specs.declared.state.Bus.{Bus}
use Rattle.bus.proofs.SoundDeclared.{declared_power_on, sound_apart, sound_constant}
use Rattle.bus.proofs.SoundParts.{sound_admitted, sound_placed}
use Rattle.enumeration.specs.Enumerate.{asked, answers_byte}
use Rattle.enumeration.proofs.Constants.{plain_given, plain_asked, header_asked, header_byte_lem}

module _ (d : Declaration) (b : Bus) (s : Sound d b) (k : ℕ) (h : k < d.count) where
  abbrev its : Function
  its = declared_function d k

  abbrev device : ℕ
  device = its.device

  abbrev now : FunctionState
  now = function_at b k

  abbrev laid : Placed
  laid = placed_of its.capabilities

  abbrev bars : List BarState
  bars = bars_placed its (addresses_in d) k

  abbrev image : List ℕ
  image = (declared_power_on d k).image

  abbrev admitted : Admitted config_space_size its.contents laid
  admitted = sound_admitted d b s k h

  -- the list's two places in the header
  abbrev marked : ℕ
  marked = cond (eqb (capability_count laid) 0) 0 layout.capabilities_list

  marked_small : marked < 256
  marked_small =
      ⊎_elim (λ (t : eqb (capability_count laid) 0 ≡ true). rw t (omega arith)) (λ (t : eqb (capability_count laid) 0 ≡ false). rw t (omega arith)) (true_or_false (eqb (capability_count laid) 0))

  status_byte : (v : ℕ) → get_or image layout.status 0 ≡ v → v < 256 → (i : ℕ) → i < 2 → get_or image (layout.status + i) 0 ≡ byte_of v i
  status_byte v e l i m =
      ⊎_elim (λ (q : i < 1). let z : i ≡ 0 = omega arith in rw z (e ∙ omega arith))
      (λ (q : 1 ≤ i). let z : i ≡ 1 = omega arith in rw z (status_high config_space_size its.contents bars laid admitted ∙ omega arith))
      (below_or_not i 1)

  pub status_asked : asked b device layout.status 2 ≡ marked
  unfolding access_ok width_ok
  status_asked =
      header_asked d b s k h layout.status 2 (ok_aligned config_space_size layout.status 2 refl) (omega arith) (inl (omega arith)) marked
      (λ i l. header_of (layout.status + i) (omega arith) (λ e. omega arith) (inl (omega arith))) (inr (omega arith))
      (status_byte marked (status_image config_space_size its.contents bars laid admitted) marked_small) ∙
      mod-eq_of_lt (omega (arith, marked_small))

  pub pointer_asked : asked b device layout.capability_pointer 1 ≡ start_of laid 0
  unfolding access_ok width_ok
  pointer_asked =
      header_byte_lem d b s k h layout.capability_pointer (start_of laid 0) refl (header_of layout.capability_pointer (omega arith) (λ e. omega arith) (inr (omega arith))) (inr (omega arith)) (inr (omega arith))
      (pointer_image config_space_size its.contents bars laid admitted) (start_byte laid admitted.laid 0)

  -- the two bytes before the body of a capability
  module _ (i : ℕ) (m : i < capability_count laid) where
    abbrev start : ℕ
    start = start_of laid i

    module _ (j : ℕ) (from : start ≤ j) (to : j < start + header_size) where
      head_aligned : Aligned config_space_size j 1
      unfolding width_ok
      head_aligned = record { known = refl; below = omega (arith, ends_inside laid admitted.laid i m); multiple = omega arith }

      head_free : in_bar now.bars j ≡ false
      head_free = bar_after now.bars j (omega (arith, starts_from laid admitted.laid i m))

      head_untouched : touch_of now.placed j 1 false ≡ Ok None
      head_untouched = let p = sound_placed d b s k h in rw p (header_untouched laid (rw p at (sound_apart d b s k h)) i j false m from to)

      pub head_given : answers_byte b device j ≡ true
      head_given = plain_given d b s k h j 1 head_aligned head_free head_untouched refl

      head_asked : (v : ℕ) → v < 256 → get_or image j 0 ≡ v → asked b device j 1 ≡ v
      head_asked v l e =
          plain_asked d b s k h j 1 head_aligned head_free head_untouched v (λ n q.
          let z : j + n ≡ j = omega arith in
          let y : n ≡ 0 = omega arith in
          rw (z, y) (sound_constant d b s k h j (header_unmasked config_space_size its.contents laid admitted bars i m j from to) ∙ e ∙ omega arith)) ∙
          mod-eq_of_lt l

    pub id_asked : asked b device start 1 ≡ (capability_at laid i).id % 256
    id_asked = head_asked start (omega arith) (omega arith) ((capability_at laid i).id % 256) (mod-lt _ (omega arith)) (id_image config_space_size its.contents laid admitted bars i m)

    pub next_asked : asked b device (start + 1) 1 ≡ start_of laid (i + 1)
    next_asked = head_asked (start + 1) (omega arith) (omega arith) (start_of laid (i + 1)) (start_byte laid admitted.laid (i + 1)) (next_image config_space_size its.contents laid admitted bars i m)
