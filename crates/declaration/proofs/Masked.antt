-- No byte of an effect can be written: the masks that 11 asks for are the latest capability's, and a later capability lies past it.
use Prim.Native.Nat.{ℕ, ◌+◌, ◌-◌, ◌<◌, ◌≤◌}
use mathlib.Core.Bool.{true, false}
use mathlib.Core.List.{List}
use mathlib.Core.Logic.{⊎_elim}
use mathlib.Core.Path.{◌≡◌, sym, ap, subst, ◌∙◌}
use native.Mathlib.Omega.{arith}
use borrow.Author.Tests.{le-ltb}
use lib.ListN.{length, get_or, set, length-replicate}
use lib.Seq.{get_or-set_same, get_or-set_other}
use Rattle.word.specs.Interval.{covers}
use Rattle.word.specs.Store.{laid_over}
use Rattle.word.proofs.Intervals.{covers_in, covers_before, covers_within}
use Rattle.word.proofs.Puts.{laid_length, laid_at}
use Rattle.word.proofs.Tests.{both, below_or_not, same_or_not}
use Rattle.address.specs.Layout.{standard_header_end}
use Rattle.address.specs.Limits.{capability_room, effect_room}
use Rattle.capability.specs.BadEffect.{mask_at, effect_bad}
use Rattle.capability.specs.Declaration.{capability, count_of, declared_effect, length_at, latest, with_capability, with_effect}
use Rattle.capability.specs.Effect.{effect, no_effect}
use Rattle.capability.specs.Fault.{Fault, early, late, writable}
use Rattle.capability.specs.Offset.{offset_at}
use Rattle.capability.specs.Size.{header_size, body_most}
use Rattle.capability.specs.Sound.{Sound}
use Rattle.capability.specs.declared.declared.Capabilities.{Capabilities}
use Rattle.capability.specs.declared.effect.Effect.{Effect}
use Rattle.capability.specs.declared.effect.EffectAccess.{EffectAccess}
use Rattle.capability.proofs.Declarations.{added_last, added_other}
use Rattle.capability.proofs.Faults.{fault_bad}
use Rattle.capability.proofs.Offsets.{end_before, offset_from, offset_same}
use Rattle.config.specs.Space.{body_space}
use Rattle.declaration.specs.Blank.{no_mask}
use Rattle.declaration.specs.Good.{byte_of_capability, ReadOnly}
use Rattle.declaration.specs.Take.{body_place, with_part}
use Rattle.declaration.proofs.Everywhere.{past_end_lem}

-- the masks that 11 asks for are those of the latest capability
abbrev pub Latest : List ℕ → List ℕ → Capabilities → Type 0
Latest mask masks d =
    (i : ℕ) → 0 < d.count → i < length_at d (latest d) → byte_of_capability d (latest d) (header_size + i) < body_space → get_or masks (byte_of_capability d (latest d) (header_size + i)) 0 ≡ get_or mask i 0

-- bytes with others laid over them: before those, and there
module _ (bytes : List ℕ) (o : ℕ) (part : List ℕ) (w : ℕ) where
  laid_before : (j : ℕ) → j < o → get_or (laid_over bytes o w part) j 0 ≡ get_or bytes j 0
  laid_before j h =
      ⊎_elim (λ (l : j < length bytes). laid_at bytes o part w j l ∙ rw (covers_before o w j h))
      (λ (l : length bytes ≤ j). past_end_lem 0 (laid_over bytes o w part) j (rw (laid_length bytes o part w) l) ∙ sym (past_end_lem 0 bytes j l))
      (below_or_not j (length bytes))

  laid_there : (j i : ℕ) → j ≡ o + i → i < w → j < length bytes → get_or (laid_over bytes o w part) j 0 ≡ get_or part i 0
  laid_there j i e h l =
      let z : j - o ≡ i = omega arith in
      laid_at bytes o part w j l ∙ rw (covers_in o w j (omega arith) (omega arith), z)

mask_room_lem : length no_mask ≡ body_most
unfolding no_mask
mask_room_lem = length-replicate {A = ℕ} body_most 0

-- one more capability
module _ (d : Capabilities) (s : Sound d) (free : d.count < capability_room) (id n : ℕ) where
  abbrev more : Capabilities
  more = with_capability d (capability id n)

  start_kept : (k : ℕ) → k ≤ d.count → offset_at (length_at more) k ≡ offset_at (length_at d) k
  start_kept k h = offset_same (length_at more) (length_at d) k (λ i l. ap (λ x. x.length) (added_other d (capability id n) i (λ q. omega arith)))

  its_length : length_at more d.count ≡ n
  its_length = ap (λ x. x.length) (added_last d (capability id n) (omega (arith, s.long_list)))

  is_latest : latest more ≡ d.count
  is_latest = omega arith

  place_is : body_place d ≡ offset_at (length_at d) d.count + header_size - standard_header_end
  place_is = let z : count_of d ≡ d.count = omega arith in rw z

  latest_start : offset_at (length_at more) (latest more) ≡ offset_at (length_at d) d.count
  latest_start = ap (offset_at (length_at more)) is_latest ∙ start_kept d.count (omega arith)

  latest_length : length_at more (latest more) ≡ n
  latest_length = ap (length_at more) is_latest ∙ its_length

  module _ (masks part : List ℕ) where
    -- what an effect covers lies before its body
    pub capability_read_only : ReadOnly masks d → ReadOnly (with_part masks (body_place d) part) more
    capability_read_only h j b l c =
        let k = (declared_effect d j).capability in
        let f = s.fitting j l in
        let w = covers_within (declared_effect d j).offset (declared_effect d j).length b c in
        let start = start_kept k (omega (arith, f.belongs)) in
        let before : byte_of_capability d k b < body_place d = omega (arith, place_is, f.ends, w.to, end_before (length_at d) k d.count f.belongs, offset_from (length_at d) k) in
        ap (λ (x : ℕ). get_or (with_part masks (body_place d) part) (x + b - standard_header_end) 0) start ∙ laid_before masks (body_place d) part (length part) (byte_of_capability d k b) before ∙ h j b l c

    pub capability_latest : length masks ≡ body_space → length part ≡ n → n ≤ body_most → Latest (with_part no_mask 0 part) (with_part masks (body_place d) part) more
    capability_latest room e m i z l q =
        let at = byte_of_capability more (latest more) (header_size + i) in
        let place : at ≡ body_place d + i = omega (arith, latest_start, place_is, offset_from (length_at d) d.count) in
        let short : i < n = omega (arith, latest_length) in
        laid_there masks (body_place d) part (length part) at i place (omega arith) (omega arith) ∙ sym (laid_there no_mask 0 part (length part) i i (omega arith) (omega arith) (omega (arith, mask_room_lem)))

-- one more effect
module _ (d : Capabilities) (s : Sound d) (free : d.effect_count < effect_room) (mask masks : List ℕ) (id o n : ℕ) (a : EffectAccess) where
  abbrev wider : Capabilities
  wider = with_effect d (effect id (latest d) o n a)

  -- what it covers has no mask, and that is the mask of its capability
  covered_read_only : length masks ≡ body_space → Latest mask masks d → 0 < d.count → effect_bad mask d o n ≡ false → (b : ℕ) → covers o n b ≡ true → get_or masks (byte_of_capability d (latest d) b) 0 ≡ 0
  covered_read_only room h z e b c =
      let clean : Fault mask d o n → ⊥ = λ f. both (fault_bad mask d o n f) e in
      let w = covers_within o n b c in
      let low : header_size ≤ o = ⊎_elim (λ (q : o < header_size). absurd (clean (early q))) (λ (q : header_size ≤ o). q) (below_or_not o header_size) in
      let high : o + n ≤ header_size + length_at d (latest d) = ⊎_elim (λ (q : header_size + length_at d (latest d) < o + n). absurd (clean (late q))) (λ (q : o + n ≤ header_size + length_at d (latest d)). q) (below_or_not (header_size + length_at d (latest d)) (o + n)) in
      let zero : mask_at mask b ≡ 0 = ⊎_elim (λ (q : mask_at mask b ≡ 0). q) (λ (q : mask_at mask b ≡ 0 → ⊥). absurd (clean (writable (record { byte = b; mine = c; bits = q })))) (same_or_not (mask_at mask b) 0) in
      let there : get_or mask (b - header_size) 0 ≡ 0 = rw (le-ltb b header_size (omega (arith, w.from))) at zero in
      let same : header_size + (b - header_size) ≡ b = omega (arith, w.from) in
      ⊎_elim
      (λ (q : byte_of_capability d (latest d) b < body_space).
      ap (λ (x : ℕ). get_or masks (byte_of_capability d (latest d) x) 0) (sym same) ∙ h (b - header_size) z (omega (arith, w.from, w.to)) (rw same q) ∙ there)
      (λ (q : body_space ≤ byte_of_capability d (latest d) b). past_end_lem 0 masks (byte_of_capability d (latest d) b) (omega arith))
      (below_or_not (byte_of_capability d (latest d) b) body_space)

  pub effect_read_only : length masks ≡ body_space → Latest mask masks d → 0 < d.count → effect_bad mask d o n ≡ false → ReadOnly masks d → ReadOnly masks wider
  effect_read_only room h z e r j b l c =
      let x = effect id (latest d) o n a in
      let fine : Effect → Type 0 = λ y. covers y.offset y.length b ≡ true → get_or masks (byte_of_capability d y.capability b) 0 ≡ 0 in
      ⊎_elim (λ (q : j < d.effect_count). subst fine (sym (get_or-set_other d.effects d.effect_count j x no_effect (λ p. omega arith))) (r j b q) c)
      (λ (q : d.effect_count ≤ j).
      let p : j ≡ d.effect_count = omega arith in
      let here : get_or (set d.effects d.effect_count x) j no_effect ≡ x = rw p (get_or-set_same d.effects d.effect_count x no_effect (omega (arith, s.long_effects))) in
      subst fine (sym here) (covered_read_only room h z e b) c)
      (below_or_not j d.effect_count)
