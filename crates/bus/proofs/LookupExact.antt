-- Memory lookup exactly: a hit is of a BAR that holds the access, a miss says that none does, and on a sound bus no two hold it.
use Prim.Native.Nat.{ℕ, ◌+◌, ◌-◌, ◌/◌, ◌%◌, ◌<◌, ◌≤◌}
use mathlib.Core.Bool.{true, false, cond}
use mathlib.Core.Logic.{⊎_elim}
use mathlib.Core.Path.{◌≡◌, ap, sym}
use native.Mathlib.Nat.{mod-lt}
use native.Mathlib.Omega.{arith}
use borrow.Author.Tests.{le-leb}
use Rattle.refusal.specs.Number.{bad_access}
use Rattle.word.specs.Width.{width_ok}
use Rattle.word.proofs.Searches.{First, first_or_none}
use Rattle.word.proofs.Tests.{below_or_not, same_or_not, true_or_false, both, never}
use Rattle.word.proofs.Widths.{width_pos}
use Rattle.address.specs.Layout.{bar_count}
use Rattle.bar.specs.Range.{end_of}
use Rattle.bar.specs.State.{range_of}
use Rattle.bar.proofs.Ranges.{In, common_meets}
use Rattle.placement.specs.Keys.{key_count}
use Rattle.declaration.specs.declared.answer.Declaration.{Declaration}
use Rattle.bus.specs.Bus.{count_on, device_at, function_at, key_of, bar_in}
use Rattle.bus.specs.Lookup.{most_lookup, decodes, holds_at, hit_of, lookup_of}
use Rattle.bus.specs.Held.{Held, Looked, hit, miss, bad_width}
use Rattle.bus.specs.Sound.{Sound}
use Rattle.bus.specs.Start.{declared_function}
use Rattle.bus.specs.declared.state.Bus.{Bus}
use Rattle.bus.specs.declared.memory_lookup.Hit.{Hit}
use Rattle.std.proofs.Common.{Option, None, Result, Ok}
use Rattle.refusal.specs.Refusal.{answer_number}
use Rattle.refusal.specs.declared.refusal.Refusal.{Refusal}
use Rattle.bus.proofs.Committed.{range_there, range_past, range_slot}
use Rattle.bus.proofs.Devices.{sound_only}
use Rattle.bus.proofs.Lookups.{lookup_width, lookup_hit, lookup_miss, holds_decodes, holds_from, holds_to}
use Rattle.bus.proofs.SoundParts.{sound_count}

-- two hits that are one have one device, slot and offset
hit_parts : (x y z p q r : ℕ) → ◌≡◌ {A = Result (Option Hit) Refusal} (Ok (hit_of x y z)) (Ok (hit_of p q r)) → (x ≡ p) × (y ≡ q) × (z ≡ r)
hit_parts x y z p q r e =
    let h : ◌≡◌ {A = Hit} (record { device = x; slot = y; offset = z }) (record { device = p; slot = q; offset = r }) = cc in
    (ap (λ (t : Hit). t.device) h, ap (λ (t : Hit). t.slot) h, ap (λ (t : Hit). t.offset) h)

module _ (b : Bus) (a w : ℕ) where
  -- held by function and slot is held by key
  held_holds : (k i : ℕ) → Held b a w k i → holds_at b a w (key_of k i) ≡ true
  unfolding holds_at
  held_holds k i h =
      let p : key_of k i / bar_count ≡ k = omega arith in
      rw (range_slot b k i h.there h.slot, p, h.decoding, le-leb (bar_in b k i).address a h.from, le-leb (a + w) (end_of (range_of (bar_in b k i))) h.to)

  module _ (e : width_ok most_lookup w ≡ true) where
    -- and the other way: no access lies in the empty range past the last function
    holds_held : (key : ℕ) → holds_at b a w key ≡ true → Held b a w (key / bar_count) (key % bar_count)
    holds_held key t =
        let f = holds_from b a w key t in
        let g = holds_to b a w key t in
        ⊎_elim (λ (h : key / bar_count < count_on b). let r = range_there b key h in record { there = h; slot = mod-lt key (omega arith); decoding = holds_decodes b a w key t; from = rw r at f; to = rw r at g })
        (λ (h : count_on b ≤ key / bar_count). absurd (omega (arith, rw (range_past b key h) at g, width_pos most_lookup w e)))
        (below_or_not (key / bar_count) (count_on b))

    looked_first : (key : ℕ) → First (holds_at b a w) key_count key → Looked b a w (lookup_of b a w)
    looked_first key f =
        let h = holds_held key f.here in
        rw (lookup_hit b a w key e f, range_there b key h.there) (hit e (key / bar_count) (key % bar_count) h)

    looked_none : ((key : ℕ) → key < key_count → holds_at b a w key ≡ false) → Looked b a w (lookup_of b a w)
    looked_none f = rw (lookup_miss b a w e f) (miss e (λ k i h. both (held_holds k i h) (f (key_of k i) (omega (arith, h.there, h.slot)))))

    -- where none holds it, it is missed
    pub none_miss : ((k i : ℕ) → Held b a w k i → ⊥) → lookup_of b a w ≡ Ok None
    none_miss none = lookup_miss b a w e (λ key h. never (holds_at b a w key) (λ t. none (key / bar_count) (key % bar_count) (holds_held key t)))

  -- on every bus the answer says what is so
  pub lookup_looked : Looked b a w (lookup_of b a w)
  lookup_looked =
      ⊎_elim (λ (e : width_ok most_lookup w ≡ true). ⊎_elim (λ r. looked_first e r.0 r.1) (looked_none e) (first_or_none (holds_at b a w) key_count))
      (λ (e : width_ok most_lookup w ≡ false). rw (lookup_width b a w e) (bad_width e)) (true_or_false (width_ok most_lookup w))

  -- a hit is of one that holds the access, with its device, slot and offset
  when_hit : (r : Result (Option Hit) Refusal) (device slot offset : ℕ) → Looked b a w r → r ≡ Ok (hit_of device slot offset) → (k : ℕ) × Held b a w k slot × (device ≡ device_at b k) × (offset ≡ a - (bar_in b k slot).address)
  when_hit r device slot offset (hit e k i h) q =
      let p = hit_parts (device_at b k) i (a - (bar_in b k i).address) device slot offset q in
      (k, rw p.1 at h, sym p.0, rw (← p.1) (sym p.2))
  when_hit r device slot offset (miss e n) q = let z : ◌≡◌ {A = ℕ} 0 1 = cc in absurd (omega arith)
  when_hit r device slot offset (bad_width e) q = let z : ◌≡◌ {A = ℕ} 0 1 = cc in absurd (omega arith)

  pub hit_held : (device slot offset : ℕ) → lookup_of b a w ≡ Ok (hit_of device slot offset) → (k : ℕ) × Held b a w k slot × (device ≡ device_at b k) × (offset ≡ a - (bar_in b k slot).address)
  hit_held device slot offset q = when_hit (lookup_of b a w) device slot offset lookup_looked q

  pub hit_width : (device slot offset : ℕ) → lookup_of b a w ≡ Ok (hit_of device slot offset) → width_ok most_lookup w ≡ true
  hit_width device slot offset q =
      ⊎_elim (λ (e : width_ok most_lookup w ≡ true). e) (λ (e : width_ok most_lookup w ≡ false). let z : ◌≡◌ {A = ℕ} 0 1 = cc (lookup_width b a w e) in absurd (omega arith)) (true_or_false (width_ok most_lookup w))

  -- a miss means that none holds it
  when_miss : (r : Result (Option Hit) Refusal) → Looked b a w r → r ≡ Ok None → (k i : ℕ) → Held b a w k i → ⊥
  when_miss r (hit e k i h) q = let z : ◌≡◌ {A = ℕ} 0 1 = cc in absurd (omega arith)
  when_miss r (miss e n) q = n
  when_miss r (bad_width e) q = let z : ◌≡◌ {A = ℕ} 0 1 = cc in absurd (omega arith)

  pub miss_none : lookup_of b a w ≡ Ok None → (k i : ℕ) → Held b a w k i → ⊥
  miss_none q = when_miss (lookup_of b a w) lookup_looked q

  -- 18 exactly for other widths
  pub width_refused : width_ok most_lookup w ≡ false → answer_number (lookup_of b a w) ≡ bad_access
  width_refused e = rw (lookup_width b a w e)

  when_refused : (r : Result (Option Hit) Refusal) → Looked b a w r → answer_number r ≡ bad_access → width_ok most_lookup w ≡ false
  when_refused r (hit e k i h) q = absurd (omega arith)
  when_refused r (miss e n) q = absurd (omega arith)
  when_refused r (bad_width e) q = e

  pub refused_width : answer_number (lookup_of b a w) ≡ bad_access → width_ok most_lookup w ≡ false
  refused_width q = when_refused (lookup_of b a w) lookup_looked q

module _ (d : Declaration) (b : Bus) (s : Sound d b) where
  -- an address lies in one BAR's committed range, whether it decodes or not
  pub range_one : (x j h k i : ℕ) → j < count_on b → h < bar_count → k < count_on b → i < bar_count → In (range_of (bar_in b j h)) x → In (range_of (bar_in b k i)) x → (j ≡ k) × (h ≡ i)
  range_one x j h k i m n o p t u =
      ⊎_elim (λ (q : key_of j h ≡ key_of k i). (omega arith, omega arith))
      (λ (q : key_of j h ≡ key_of k i → ⊥). absurd (both (common_meets (range_of (bar_in b j h)) (range_of (bar_in b k i)) x t u) (rw (range_slot b j h m n, range_slot b k i o p) at (s.committed.apart (key_of j h) (key_of k i) q))))
      (same_or_not (key_of j h) (key_of k i))

  module _ (a w : ℕ) (e : width_ok most_lookup w ≡ true) where
    held_in : (k i : ℕ) → Held b a w k i → In (range_of (bar_in b k i)) a
    held_in k i h = record { from = h.from; below = omega (arith, h.to, width_pos most_lookup w e) }

    -- two that hold one access are one
    pub held_one : (j h k i : ℕ) → Held b a w j h → Held b a w k i → (j ≡ k) × (h ≡ i)
    held_one j h k i p q = range_one a j h k i p.there p.slot q.there q.slot (held_in j h p) (held_in k i q)

    -- so the one that holds it is the one that is hit
    when_held : (r : Result (Option Hit) Refusal) (k i : ℕ) → Held b a w k i → Looked b a w r → r ≡ Ok (hit_of (device_at b k) i (a - (bar_in b k i).address))
    when_held r k i h (hit t j g l) = let q = held_one j g k i l h in rw (q.0, q.1)
    when_held r k i h (miss t n) = absurd (n k i h)
    when_held r k i h (bad_width t) = absurd (both e t)

    pub held_hit : (k i : ℕ) → Held b a w k i → lookup_of b a w ≡ Ok (hit_of (device_at b k) i (a - (bar_in b k i).address))
    held_hit k i h = when_held (lookup_of b a w) k i h (lookup_looked b a w)

  -- and whatever is so is the answer
  pub looked_lookup : (a w : ℕ) (r : Result (Option Hit) Refusal) → Looked b a w r → lookup_of b a w ≡ r
  looked_lookup a w r (hit e k i h) = held_hit a w e k i h
  looked_lookup a w r (miss e n) = none_miss b a w e n
  looked_lookup a w r (bad_width e) = lookup_width b a w e

  -- a whole access in a BAR is hit, with its offset there, exactly while the BAR's function decodes
  pub lookup_within : (k i : ℕ) → k < d.count → i < bar_count → (a w : ℕ) → width_ok most_lookup w ≡ true → (bar_in b k i).address ≤ a → a + w ≤ end_of (range_of (bar_in b k i)) → lookup_of b a w ≡ Ok (cond (decodes (function_at b k)) (hit_of (device_at b k) i (a - (bar_in b k i).address)) None)
  lookup_within k i h l a w e f g =
      let n : k < count_on b = rw (sound_count d b s) h in
      ⊎_elim (λ (t : decodes (function_at b k) ≡ true). rw (t, held_hit a w e k i (record { there = n; slot = l; decoding = t; from = f; to = g })))
      (λ (t : decodes (function_at b k) ≡ false).
      rw (t, none_miss b a w e (λ j m p. let q = range_one a j m k i p.there p.slot n l (held_in a w e j m p) (record { from = f; below = omega (arith, width_pos most_lookup w e) }) in both (rw q.0 at p.decoding) t)))
      (true_or_false (decodes (function_at b k)))

  -- a hit with a declared function's device is of a BAR of that function
  pub hit_its : (k : ℕ) → k < d.count → (a w slot offset : ℕ) → lookup_of b a w ≡ Ok (hit_of (declared_function d k).device slot offset) → Held b a w k slot × (offset ≡ a - (bar_in b k slot).address)
  hit_its k h a w slot offset q =
      let r = hit_held b a w (declared_function d k).device slot offset q in
      let e : r.0 ≡ k = sound_only d b s r.0 k (rw (sound_count d b s) at r.1.there) h r.2 in
      (rw e at r.1, rw (← e) r.3)
