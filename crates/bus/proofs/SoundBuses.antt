-- A bus stays sound where one function of it is changed by a write or by the end of a relocation, and where all are reset: ranges stay as they are, or one moves to a place, or all are as they were placed.
use Rattle.std.specs.Prelude.{Some, None}
use Prim.Native.Nat.{ℕ, ◌/◌, ◌%◌, ◌<◌, ◌≤◌}
use mathlib.Core.Bool.{true, false}
use mathlib.Core.List.{List}
use mathlib.Core.Logic.{⊎_elim}
use mathlib.Core.Path.{◌≡◌, sym, ◌∙◌}
use native.Mathlib.Omega.{arith}
use borrow.Author.Tests.{lt-ltb, le-ltb}
use lib.ListN.{length, get_or, set, length-set}
use lib.Seq.{get_or-set_same, get_or-set_other}
use Rattle.word.proofs.Tests.{below_or_not, same_or_not}
use Rattle.address.specs.Layout.{bar_count}
use Rattle.address.specs.Limits.{function_room}
use Rattle.bar.specs.Range.{four_gib, range, multiple, lies_in, meets}
use Rattle.bar.specs.State.{no_state, range_of, relocated}
use Rattle.bar.specs.declared.range.Aperture.{Aperture}
use Rattle.bar.specs.declared.range.Range.{Range}
use Rattle.bar.proofs.Ranges.{lies_end, meets_sym}
use Rattle.config.specs.Reset.{reset_done}
use Rattle.config.specs.State.{bar_at}
use Rattle.config.specs.Write.{write_of, relocated_in}
use Rattle.config.specs.declared.state.FunctionState.{FunctionState}
use Rattle.config.proofs.Kept.{write_same, write_keeps_address, other_slot, reset_bars}
use Rattle.declaration.specs.declared.answer.Declaration.{Declaration}
use Rattle.bus.specs.Bus.{no_function_state, function_at, key_of, range_on, with_function}
use Rattle.bus.specs.Sound.{started_function, plan_on, Clear, SoundFunction, Sound}
use Rattle.bus.specs.declared.state.Bus.{Bus}
use Rattle.bus.proofs.SoundParts.{sound_count}
use Rattle.bus.proofs.SoundRanges.{clear_same, sound_range, sound_planned}
use Rattle.bus.proofs.SoundSteps.{write_sound, relocation_sound, reset_sound}

-- ranges of which one moves to a place that is clear of the others
pub clear_moved : (a : Aperture) (at to : ℕ → Range) (z : ℕ) → a.end ≤ four_gib → Clear a at → ((k : ℕ) → (k ≡ z → ⊥) → to k ≡ at k) → multiple (to z) ≡ true → lies_in a (to z) ≡ true → ((k : ℕ) → (k ≡ z → ⊥) → meets (to z) (at k) ≡ false) → Clear a to
clear_moved a at to z most c e aligned within free =
    record {
      aligned = λ k h. ⊎_elim (λ (q : k ≡ z). rw q aligned) (λ (q : k ≡ z → ⊥). rw (e k q) (c.aligned k (rw (e k q) at h))) (same_or_not k z);
      within = λ k h. ⊎_elim (λ (q : k ≡ z). rw q within) (λ (q : k ≡ z → ⊥). rw (e k q) (c.within k (rw (e k q) at h))) (same_or_not k z);
      below = λ k. ⊎_elim (λ (q : k ≡ z). rw q (omega (arith, lies_end a (to z) within))) (λ (q : k ≡ z → ⊥). rw (e k q) (c.below k)) (same_or_not k z);
      apart = λ j k n.
          ⊎_elim (λ (q : j ≡ z). let o : k ≡ z → ⊥ = λ p. n (q ∙ sym p) in rw (q, e k o) (free k o))
          (λ (q : j ≡ z → ⊥).
          ⊎_elim (λ (p : k ≡ z). rw (p, e j q) (meets_sym (at j) (to z) ∙ free j q)) (λ (p : k ≡ z → ⊥). rw (e j q, e k p) (c.apart j k n)) (same_or_not k z))
          (same_or_not j z);
    }

module _ (d : Declaration) (b : Bus) (s : Sound d b) where
  -- with other functions, where each is sound and all ranges are clear
  module _ (fs : List FunctionState) where
    abbrev all : Bus
    all = record { aperture = b.aperture; devices = b.devices; functions = fs; count = b.count }

    sound_all : length fs ≡ function_room → ((k : ℕ) → k < b.count → SoundFunction (started_function d k) (function_at all k)) → ((k : ℕ) → b.count ≤ k → function_at all k ≡ no_function_state) → Clear b.aperture (range_on all) → Sound d all
    sound_all long each blank clear =
        record {
          good = s.good;
          accepted = s.accepted;
          aperture = s.aperture;
          count = s.count;
          few = s.few;
          devices = s.devices;
          ascends = s.ascends;
          most = s.most;
          room = long;
          functions = each;
          past = blank;
          committed = clear;
        }

  module _ (k : ℕ) (h : k < d.count) where
    there : k < length b.functions
    there = let r = s.room in let c = s.count in let n = s.few in omega arith

    module _ (f : FunctionState) where
      function_here : function_at (with_function b k f) k ≡ f
      function_here = get_or-set_same b.functions k f no_function_state there

      function_other : (j : ℕ) → (j ≡ k → ⊥) → function_at (with_function b k f) j ≡ function_at b j
      function_other j q = get_or-set_other b.functions k j f no_function_state q

      range_here : (key : ℕ) → key / bar_count ≡ k → range_on (with_function b k f) key ≡ range_of (bar_at f.bars (key % bar_count))
      unfolding range_on
      range_here key q = rw (q, sound_count d b s, lt-ltb k d.count h, function_here)

      range_other : (key : ℕ) → (key / bar_count ≡ k → ⊥) → range_on (with_function b k f) key ≡ range_on b key
      unfolding range_on
      range_other key q = rw (function_other (key / bar_count) q)

      -- with another function in its place, where all ranges are clear
      sound_with : SoundFunction (started_function d k) f → Clear b.aperture (range_on (with_function b k f)) → Sound d (with_function b k f)
      sound_with g c =
          sound_all (set b.functions k f) (length-set b.functions k f ∙ s.room)
          (λ j l. ⊎_elim (λ (q : j ≡ k). rw (q, function_here) g) (λ (q : j ≡ k → ⊥). rw (function_other j q) (s.functions j l)) (same_or_not j k))
          (λ j l. function_other j (λ q. let n = s.count in omega arith) ∙ s.past j l) c

      -- where its BARs are where they were
      same_ranges : ((i : ℕ) → range_of (bar_at f.bars i) ≡ range_of (bar_at (function_at b k).bars i)) → (key : ℕ) → range_on (with_function b k f) key ≡ range_on b key
      same_ranges e key =
          ⊎_elim (λ (q : key / bar_count ≡ k). range_here key q ∙ e (key % bar_count) ∙ sym (sound_range d b s key (rw q h) ∙ rw q))
          (λ (q : key / bar_count ≡ k → ⊥). range_other key q) (same_or_not (key / bar_count) k)

      sound_still : SoundFunction (started_function d k) f → ((i : ℕ) → range_of (bar_at f.bars i) ≡ range_of (bar_at (function_at b k).bars i)) → Sound d (with_function b k f)
      sound_still g e = sound_with g (clear_same b.aperture (range_on b) (range_on (with_function b k f)) (same_ranges e) s.committed)

    abbrev its : SoundFunction (started_function d k) (function_at b k)
    its = s.functions k (rw s.count h)

    -- a write moves no BAR
    pub sound_write : (o w v : ℕ) → Sound d (with_function b k (write_of (function_at b k) o w v).state)
    sound_write o w v =
        let f = function_at b k in
        sound_still (write_of f o w v).state (write_sound (started_function d k) f its o w v)
        (λ i. rw (write_keeps_address f o w v i, (write_same f o w v).plans i))

    module _ (i : ℕ) (l : i < bar_count) where
      abbrev key : ℕ
      key = key_of k i

      abbrev f : FunctionState
      f = function_at b k

      six : i < length f.bars
      six = let n = its.six in omega arith

      -- nor does a candidate that is not accepted
      kept_ranges : (j : ℕ) → range_of (bar_at (relocated_in f i None).bars j) ≡ range_of (bar_at f.bars j)
      kept_ranges j =
          ⊎_elim (λ (q : j ≡ i). rw (q, get_or-set_same f.bars i (relocated (bar_at f.bars i) None) no_state six))
          (λ (q : j ≡ i → ⊥). rw (other_slot f.bars i j (relocated (bar_at f.bars i) None) q)) (same_or_not j i)

      pub sound_kept : Sound d (with_function b k (relocated_in f i None))
      sound_kept = sound_still (relocated_in f i None) (relocation_sound (started_function d k) f its i None l) kept_ranges

      -- one that is accepted moves this BAR alone
      module _ (a : ℕ) where
        abbrev g : FunctionState
        g = relocated_in f i (Some a)

        abbrev moved : Range
        moved = range a (bar_at f.bars i).plan.size

        moved_here : range_on (with_function b k g) key ≡ moved
        moved_here =
            let p : key / bar_count ≡ k = omega arith in
            let q : key % bar_count ≡ i = omega arith in
            range_here g key p ∙ rw (q, get_or-set_same f.bars i (relocated (bar_at f.bars i) (Some a)) no_state six)

        moved_other : (n : ℕ) → (n ≡ key → ⊥) → range_on (with_function b k g) n ≡ range_on b n
        moved_other n o =
            ⊎_elim (λ (q : n / bar_count ≡ k).
            let r : n % bar_count ≡ i → ⊥ = λ t. o (omega arith) in
            range_here g n q ∙ rw (other_slot f.bars i (n % bar_count) (relocated (bar_at f.bars i) (Some a)) r) (sym (sound_range d b s n (rw q h) ∙ rw q)))
            (λ (q : n / bar_count ≡ k → ⊥). range_other g n q) (same_or_not (n / bar_count) k)

        pub sound_moved : multiple moved ≡ true → lies_in b.aperture moved ≡ true → ((n : ℕ) → (n ≡ key → ⊥) → meets moved (range_on b n) ≡ false) → Sound d (with_function b k g)
        sound_moved aligned within free =
            sound_with g (relocation_sound (started_function d k) f its i (Some a) l)
            (clear_moved b.aperture (range_on b) (range_on (with_function b k g)) key (rw s.aperture s.good.aperture.most) s.committed moved_other (rw moved_here aligned) (rw moved_here within) (λ n o. rw moved_here (free n o)))

  -- every function reset
  module _ (fs : List FunctionState) (long : length fs ≡ function_room) (each : (k : ℕ) → k < d.count → get_or fs k no_function_state ≡ (reset_done (function_at b k)).state) (blank : (k : ℕ) → d.count ≤ k → get_or fs k no_function_state ≡ no_function_state) where
    reset_ranges : (key : ℕ) → range_on (all fs) key ≡ plan_on b key
    unfolding range_on plan_on
    reset_ranges key =
        let k = key / bar_count in
        ⊎_elim (λ (h : k < d.count). rw (sound_count d b s, lt-ltb k d.count h, each k h, reset_bars (function_at b k) (key % bar_count)))
        (λ (h : d.count ≤ k). rw (sound_count d b s, le-ltb k d.count h)) (below_or_not k d.count)

    pub sound_reset : Sound d (all fs)
    sound_reset =
        sound_all fs long (λ k l. let h : k < d.count = rw s.count at l in rw (each k h) (reset_sound d s.good k (function_at b k) (s.functions k l)))
        (λ k l. blank k (rw s.count at l)) (clear_same b.aperture (plan_on b) (range_on (all fs)) reset_ranges (sound_planned d b s))
