-- The Rust's byte mode is the owners': the capability that covers a byte holds it, and an effect that owns the byte is one of that capability.
use Prim.Native.Nat.{ℕ, ◌+◌, ◌-◌, ◌<◌, ◌≤◌}
use mathlib.Core.Bool.{true, false, cond}
use mathlib.Core.List.{List}
use mathlib.Core.Logic.{⊎_elim}
use mathlib.Core.Path.{◌≡◌, refl, ap, ◌∙◌}
use native.Mathlib.Omega.{arith}
use borrow.Author.Tests.{le-ltb, lt-leb, eqb-true, eq-eqb}
use lib.Dec.{eqb}
use lib.ListN.{get_or}
use Rattle.std.proofs.Common.{Option, Some, None}
use Rattle.word.specs.Search.{any_below}
use Rattle.word.specs.Interval.{covers}
use Rattle.word.proofs.Tests.{true_or_false, and_left, and_right, both, never}
use Rattle.word.proofs.Searches.{any_found, never_any}
use Rattle.word.proofs.Intervals.{Within, covers_in, covers_within, covers_rest}
use Rattle.capability.specs.Size.{header_size}
use Rattle.capability.specs.Owner.{capability_count, effect_count, capability_at, effect_at, start_of, region_start, in_region, owner_of}
use Rattle.capability.specs.Mode.{in_capability, holder_of, body_mode, byte_mode_of}
use Rattle.capability.specs.LaidApart.{LaidApart}
use Rattle.capability.specs.RustMode.{contains, rust_mode}
use Rattle.capability.specs.declared.placed.Placed.{Placed}
use Rattle.capability.specs.declared.byte_mode.ByteMode.TheVariants as mode
use Rattle.capability.proofs.Regions.{region_within, within_region}
use Rattle.capability.proofs.Owners.{owner_first, owner_never}
use Rattle.capability.proofs.Modes.{holder_is, mode_header, mode_body}

module _ (p : Placed) (mask : List ℕ) (c j : ℕ) (g : LaidApart p) (h : c < capability_count p) (e : in_capability p j c ≡ true) where
  here : Within (start_of p c) (header_size + (capability_at p c).length) j
  unfolding in_capability
  here = covers_within (start_of p c) (header_size + (capability_at p c).length) j e

  -- the capability that covers a byte holds it
  pub holder_covers : holder_of p j ≡ Some c
  holder_covers =
      holder_is p j c h (never_any (in_capability p j) c (λ k l. never (in_capability p j k) (λ t. let q : k ≡ c = g.separate k c j (omega arith) h t e in omega arith))) e

  -- an effect that owns the byte is the capability's own
  own : (i : ℕ) → i < effect_count p → in_region p j i ≡ true → contains p c j i ≡ true
  unfolding region_start in_capability
  own i l t =
      let w = region_within p i j t in
      let q : (effect_at p i).capability ≡ c =
      g.separate (effect_at p i).capability c j (g.belongs i l) h (covers_in (start_of p (effect_at p i).capability) (header_size + (capability_at p (effect_at p i).capability).length) j (omega (arith, w)) (omega (arith, w, g.ends i l))) e in
      let f : start_of p c ≤ j = here.from in
      let a : start_of p c + (effect_at p i).offset ≤ j = rw q at w.from in
      let b : j < start_of p c + (effect_at p i).offset + (effect_at p i).length = rw q at w.to in
      rw (eq-eqb (effect_at p i).capability c q) (covers_in (effect_at p i).offset (effect_at p i).length (j - start_of p c) (omega arith) (omega arith))

  owns : (i : ℕ) → contains p c j i ≡ true → in_region p j i ≡ true
  unfolding region_start
  owns i t =
      let q : (effect_at p i).capability ≡ c = eqb-true (effect_at p i).capability c (and_left (eqb (effect_at p i).capability c) (covers (effect_at p i).offset (effect_at p i).length (j - start_of p c)) t) in
      let w = covers_within (effect_at p i).offset (effect_at p i).length (j - start_of p c) (and_right (eqb (effect_at p i).capability c) (covers (effect_at p i).offset (effect_at p i).length (j - start_of p c)) t) in
      let f : start_of p c ≤ j = here.from in
      within_region p i j (rw q (omega (arith, w))) (rw q (omega (arith, w)))

  by_owner_lem : (x : Option ℕ) → owner_of p j ≡ x → body_mode x (get_or mask j 0) ≡ cond (any_below (contains p c j) (effect_count p)) mode.EffectOnly (cond (eqb (get_or mask j 0) 0) mode.Constant mode.StoredMasked)
  by_owner_lem None o = rw (never_any (contains p c j) (effect_count p) (λ k l. never (contains p c j k) (λ t. both (owns k t) (owner_never p j o k l))))
  by_owner_lem (Some i) o = let f = owner_first p j i o in rw (any_found (contains p c j) i (effect_count p) f.below (own i f.below f.here))

  pub modes_agree : byte_mode_of p mask j ≡ rust_mode p mask c j
  modes_agree =
      let a : start_of p c ≤ j = here.from in
      rw (le-ltb j (start_of p c) a, lt-leb (header_size + (capability_at p c).length) (j - start_of p c) (omega (arith, here.to)), covers_rest (start_of p c) header_size j a)
      (⊎_elim
      (λ (t : covers (start_of p c) header_size j ≡ true). rw t (mode_header p j mask c holder_covers t))
      (λ (t : covers (start_of p c) header_size j ≡ false). rw t (mode_body p j mask c holder_covers t ∙ ap Some (by_owner_lem (owner_of p j) refl)))
      (true_or_false (covers (start_of p c) header_size j)))
