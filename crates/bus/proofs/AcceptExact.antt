-- Acceptance exactly: a candidate is accepted if and only if it is a multiple of its size, lies in the aperture and meets the committed range of no other function's or slot's BAR; the answer says which.
use Rattle.std.specs.Prelude.{Option, Some, None, Ok}
use Prim.Native.Nat.{ℕ, ◌/◌, ◌%◌, ◌<◌, ◌≤◌}
use mathlib.Core.Bool.{true, false}
use mathlib.Core.Logic.{⊎_elim}
use mathlib.Core.Path.{◌≡◌, refl, ◌∙◌}
use native.Mathlib.Nat.{mod-lt}
use native.Mathlib.Omega.{arith}
use borrow.Author.Tests.{eq-eqb, ne_eqb}
use lib.ListN.{length, get_or, get_or-eq_default}
use lib.Seq.{get_or-set_same}
use Rattle.word.proofs.Tables.{length_table, get_or_table}
use Rattle.word.proofs.Tests.{below_or_not, same_or_not, true_or_false, both}
use Rattle.address.specs.Layout.{bar_count}
use Rattle.bar.specs.Range.{meets}
use Rattle.bar.specs.State.{no_state, relocated}
use Rattle.bar.specs.declared.range.Range.{Range}
use Rattle.bar.proofs.Ranges.{empty_second}
use Rattle.config.specs.Write.{write_of, relocated_in}
use Rattle.config.specs.declared.write_step.WriteAnswer.TheVariants.{Candidate}
use Rattle.declaration.specs.declared.answer.Declaration.{Declaration}
use Rattle.placement.specs.Keys.{key_count}
use Rattle.placement.specs.Place.{no_range}
use Rattle.placement.proofs.Places.{Place, is_place_lem, place_is}
use Rattle.bus.specs.Acceptable.{range_from, Acceptable, Settled}
use Rattle.bus.specs.Access.{range_but, ranges_but, accepts, settled_on, written_on, bus_write_of}
use Rattle.bus.specs.Bus.{no_function_state, count_on, function_at, with_function, range_on, key_of, bar_in}
use Rattle.bus.specs.Sound.{Sound}
use Rattle.bus.specs.Start.{declared_function}
use Rattle.bus.specs.declared.state.Bus.{Bus}
use Rattle.bus.proofs.Candidates.{candidate_slot}
use Rattle.bus.proofs.Committed.{range_there, range_past, range_slot}
use Rattle.bus.proofs.Devices.{sound_written}
use Rattle.bus.proofs.SoundParts.{sound_count}

-- the range at another key is among those that a candidate has to be clear of
pub other_range : (b : Bus) (key n : ℕ) → n < key_count → (n ≡ key → ⊥) → get_or (ranges_but b key) n no_range ≡ range_on b n
unfolding ranges_but range_but
other_range b key n h q = get_or_table key_count (range_but b key) n no_range h ∙ rw (ne_eqb n key q)

-- nothing else is: not the BAR's own range, and none past the last key
own_range : (b : Bus) (key : ℕ) → key < key_count → get_or (ranges_but b key) key no_range ≡ no_range
unfolding ranges_but range_but
own_range b key h = get_or_table key_count (range_but b key) key no_range h ∙ rw (eq-eqb key key refl)

past_range : (b : Bus) (key n : ℕ) → key_count ≤ n → get_or (ranges_but b key) n no_range ≡ no_range
unfolding ranges_but
past_range b key n h = get_or-eq_default (ranges_but b key) no_range {n = n} (rw (length_table key_count (range_but b key)) h)

-- an accepted candidate is a place among the others
pub accepts_place : (b : Bus) (k i a : ℕ) → accepts b k i a ≡ true → Place b.aperture (bar_in b k i).plan.size (ranges_but b (key_of k i)) a
unfolding accepts
accepts_place b k i a e = place_is b.aperture (bar_in b k i).plan.size (ranges_but b (key_of k i)) a e

module _ (b : Bus) (k i a : ℕ) (t : k < count_on b) (l : i < bar_count) where
  abbrev key : ℕ
  key = key_of k i

  abbrev its : Range
  its = range_from b k i a

  pub accepts_acceptable : accepts b k i a ≡ true → Acceptable b k i a
  accepts_acceptable e =
      let p = accepts_place b k i a e in
      record {
        aligned = p.aligned;
        within = p.within;
        clear = λ j h m n o. rw (← range_slot b j h m n, ← other_range b key (key_of j h) (omega arith) (λ q. o (omega arith, omega arith))) (p.free (key_of j h));
      }

  module _ (c : Acceptable b k i a) where
    -- another key is another function's or another slot's
    clear_key : (n : ℕ) → (n ≡ key → ⊥) → meets its (range_on b n) ≡ false
    clear_key n q =
        ⊎_elim (λ (h : n / bar_count < count_on b). rw (range_there b n h) (c.clear (n / bar_count) (n % bar_count) h (mod-lt n (omega arith)) (λ e. let x = e.0 in let y = e.1 in q (omega arith))))
        (λ (h : count_on b ≤ n / bar_count). rw (range_past b n h) (empty_second its no_range refl))
        (below_or_not (n / bar_count) (count_on b))

    free : (n : ℕ) → meets its (get_or (ranges_but b key) n no_range) ≡ false
    free n =
        ⊎_elim
        (λ (h : n < key_count).
        ⊎_elim (λ (q : n ≡ key). rw (q, own_range b key (rw q at h)) (empty_second its no_range refl)) (λ (q : n ≡ key → ⊥). rw (other_range b key n h q) (clear_key n q)) (same_or_not n key))
        (λ (h : key_count ≤ n). rw (past_range b key n h) (empty_second its no_range refl))
        (below_or_not n key_count)

    pub acceptable_accepts : accepts b k i a ≡ true
    unfolding accepts
    acceptable_accepts = is_place_lem b.aperture (bar_in b k i).plan.size (ranges_but b key) a (record { aligned = c.aligned; within = c.within; free = free })

  -- so the answer says which, and the BAR is there
  module _ (m : k < length b.functions) (n : i < length (function_at b k).bars) where
    bar_after : (r : Option ℕ) → bar_in (with_function b k (relocated_in (function_at b k) i r)) k i ≡ relocated (bar_in b k i) r
    bar_after r =
        rw (get_or-set_same b.functions k (relocated_in (function_at b k) i r) no_function_state m, get_or-set_same (function_at b k).bars i (relocated (bar_in b k i) r) no_state n)

    pub settled : Settled b k i a (settled_on b k i a)
    settled =
        ⊎_elim
        (λ (e : accepts b k i a ≡ true).
        let c = accepts_acceptable e in
        rw e
        (record {
          moved = λ o. record { says = refl; committed = rw (bar_after (Some a)); ends = rw (bar_after (Some a)) };
          kept = λ o. absurd (o c);
          moved_only = λ slot address q. c;
          kept_only = λ slot address q. let z : ◌≡◌ {A = ℕ} 0 1 = cc in absurd (omega arith);
        }))
        (λ (e : accepts b k i a ≡ false).
        rw e
        (record {
          moved = λ o. absurd (both (acceptable_accepts o) e);
          kept = λ o. record { says = refl; committed = rw (bar_after None); ends = rw (bar_after None) };
          moved_only = λ slot address q. let z : ◌≡◌ {A = ℕ} 0 1 = cc in absurd (omega arith);
          kept_only = λ slot address q o. both (acceptable_accepts o) e;
        }))
        (true_or_false (accepts b k i a))

-- of a write by device whose candidate is a
pub write_settled : (d : Declaration) (b : Bus) → Sound d b → (k : ℕ) → k < d.count → (o w v i a : ℕ) → (write_of (function_at b k) o w v).answer ≡ Ok (Candidate i a) → Settled b k i a (bus_write_of b (declared_function d k).device o w v)
unfolding written_on
write_settled d b s k h o w v i a e =
    let l = candidate_slot (function_at b k) o w v i a e in
    let t : k < count_on b = rw (sound_count d b s) h in
    let r = s.room in
    let x = (s.functions k (rw s.count h)).six in
    rw (sound_written d b s k h o w v, e) (settled b k i a t l (omega arith) (omega arith))
