-- The regions of a sound declaration lie in their capabilities, and apart: a byte of two regions would be one of two capabilities, or of two effects of one that overlap.
use Prim.Native.Nat.{ℕ, ◌+◌, ◌-◌, ◌<◌, ◌≤◌}
use mathlib.Core.Bool.{true}
use mathlib.Core.Path.{◌≡◌, ap}
use native.Mathlib.Omega.{arith}
use Rattle.std.proofs.Common.{Ok}
use Rattle.word.proofs.Intervals.{Within, covers_in, covers_within}
use Rattle.address.specs.Layout.{standard_header_end}
use Rattle.capability.specs.Size.{header_size}
use Rattle.capability.specs.Declaration.{count_of, effect_count_of, length_at, declared_effect}
use Rattle.capability.specs.Offset.{offset_at}
use Rattle.capability.specs.Blank.{nothing_placed}
use Rattle.capability.specs.Layout.{placed_of, answer_of, layout_of, placed_or_nothing}
use Rattle.capability.specs.Sound.{Fitting, Sound}
use Rattle.capability.specs.Owner.{capability_count, effect_count, effect_at, region_start, in_region}
use Rattle.capability.specs.Mode.{in_capability}
use Rattle.capability.specs.Laid.{Laid}
use Rattle.capability.specs.LaidApart.{LaidApart}
use Rattle.capability.specs.declared.declared.Capabilities.{Capabilities}
use Rattle.capability.specs.declared.placed.Placed.{Placed}
use Rattle.capability.proofs.Shown.{nothing_count, no_capabilities, no_effects, layout_either}
use Rattle.capability.proofs.Extents.{extent_in}
use Rattle.capability.proofs.Laids.{placed_many, placed_many_effects, placed_effect_at, placed_start_lem, placed_length, placed_laid, neither_below, one_capability}

module _ (space : ℕ) (d : Capabilities) (s : Sound d) (accepted : answer_of space d ≡ Ok tt) where
  -- where the capability of effect i starts, by the declaration
  abbrev owner_start : ℕ → ℕ
  owner_start i = offset_at (length_at d) (declared_effect d i).capability

  fits : (i : ℕ) → i < effect_count_of d → Fitting d (declared_effect d i)
  fits i h = s.fitting i (omega arith)

  owned : (i : ℕ) → i < effect_count_of d → (declared_effect d i).capability < count_of d
  owned i h = omega (arith, (fits i h).belongs, s.few)

  region_byte : (i j : ℕ) → i < effect_count_of d → in_region (placed_of d) j i ≡ true → Within (owner_start i + (declared_effect d i).offset) (declared_effect d i).length j
  unfolding in_region region_start
  region_byte i j h e =
      covers_within (owner_start i + (declared_effect d i).offset) (declared_effect d i).length j (rw (placed_effect_at d i h, placed_start_lem d (declared_effect d i).capability (owned i h)) at e)

  -- a byte of a region is one of its capability
  region_capability : (i j : ℕ) → i < effect_count_of d → in_region (placed_of d) j i ≡ true → in_capability (placed_of d) j (declared_effect d i).capability ≡ true
  region_capability i j h e =
      let c = (declared_effect d i).capability in
      let r = region_byte i j h e in
      extent_in (placed_of d) j c (omega (arith, r.from, placed_start_lem d c (owned i h))) (omega (arith, r.to, (fits i h).ends, placed_start_lem d c (owned i h), placed_length d c (owned i h)))

  -- so two regions share none
  regions_apart : (i k j : ℕ) → i < k → k < effect_count_of d → in_region (placed_of d) j i ≡ true → in_region (placed_of d) j k ≡ true → ⊥
  regions_apart i k j l h a b =
      let e = declared_effect d i in
      let f = declared_effect d k in
      let m : i < effect_count_of d = omega arith in
      let r = region_byte i j m a in
      let t = region_byte k j h b in
      let q : e.capability ≡ f.capability = one_capability space (placed_of d) (placed_laid d space accepted) e.capability f.capability j (owned i m) (owned k h) (region_capability i j m a) (region_capability k j h b) in
      let z : owner_start i ≡ owner_start k = ap (offset_at (length_at d)) q in
      s.alone k (omega arith) i (j - owner_start k) l q
      (covers_in e.offset e.length (j - owner_start k) (omega (arith, r, z)) (omega (arith, r, z)))
      (covers_in f.offset f.length (j - owner_start k) (omega (arith, t)) (omega (arith, t)))

  placed_apart : LaidApart (placed_of d)
  placed_apart =
      let below : (i : ℕ) → i < effect_count (placed_of d) → i < effect_count_of d = λ i h. omega (arith, placed_many_effects d) in
      let among : (i : ℕ) → i < capability_count (placed_of d) → i < count_of d = λ i h. omega (arith, placed_many d) in
      record {
        filled = λ i h. rw (placed_effect_at d i (below i h)) (fits i (below i h)).filled;
        belongs = λ i h. rw (placed_effect_at d i (below i h), placed_many d) (owned i (below i h));
        starts = λ i h. rw (placed_effect_at d i (below i h)) (fits i (below i h)).starts;
        ends = λ i h. rw (placed_effect_at d i (below i h), placed_length d (declared_effect d i).capability (owned i (below i h))) (fits i (below i h)).ends;
        apart = λ i k j h l a b. neither_below i k (λ m. regions_apart i k j m (below k l) a b) (λ m. regions_apart k i j m (below i h) b a);
        separate = λ c e j h l a b. one_capability space (placed_of d) (placed_laid d space accepted) c e j (among c h) (among e l) a b;
      }

-- where nothing is counted there is nothing to ask
none_apart : (p : Placed) → p.count ≡ 0 → p.effect_count ≡ 0 → LaidApart p
none_apart p h l =
    record {
      filled = λ i m. absurd (omega (arith, no_effects p l));
      belongs = λ i m. absurd (omega (arith, no_effects p l));
      starts = λ i m. absurd (omega (arith, no_effects p l));
      ends = λ i m. absurd (omega (arith, no_effects p l));
      apart = λ i k j m. absurd (omega (arith, no_effects p l));
      separate = λ c e j m. absurd (omega (arith, no_capabilities p h));
    }

pub layout_apart : (space : ℕ) (d : Capabilities) → Sound d → LaidApart (placed_or_nothing (layout_of space d))
layout_apart space d s = layout_either space d LaidApart (placed_apart space d s) (none_apart nothing_placed nothing_count.0 nothing_count.1)

-- a region lies in the space, past the first capability's header
pub region_inside : (space : ℕ) (p : Placed) → LaidApart p → Laid space p → (i : ℕ) → i < effect_count p → (standard_header_end + header_size ≤ region_start p (effect_at p i)) × (region_start p (effect_at p i) + (effect_at p i).length ≤ space)
unfolding region_start
region_inside space p g l i h =
    let c : (effect_at p i).capability < p.count = omega (arith, g.belongs i h, l.counted) in
    (omega (arith, g.starts i h, l.from (effect_at p i).capability c), omega (arith, g.ends i h, l.inside (effect_at p i).capability c))
