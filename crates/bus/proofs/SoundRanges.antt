-- The ranges of a sound bus, by key: where each BAR is, where a reset puts it, and that a register shows its address as it is.
use Prim.Native.Nat.{ℕ, ◌/◌, ◌%◌, ◌<◌, ◌≤◌}
use mathlib.Core.Logic.{⊎_elim}
use mathlib.Core.Path.{◌≡◌, sym, subst}
use native.Mathlib.Nat.{mod-lt}
use native.Mathlib.Omega.{arith}
use borrow.Author.Tests.{lt-ltb, le-ltb}
use Rattle.word.proofs.Tests.{below_or_not}
use Rattle.address.specs.Layout.{bar_count}
use Rattle.bar.specs.Register.{Address}
use Rattle.bar.specs.State.{range_of}
use Rattle.bar.specs.declared.range.Aperture.{Aperture}
use Rattle.bar.specs.declared.range.Range.{Range}
use Rattle.bar.proofs.Ranges.{multiple_zero}
use Rattle.bar.proofs.Registers.{placed_address}
use Rattle.config.specs.State.{bar_at}
use Rattle.declaration.specs.declared.answer.Declaration.{Declaration}
use Rattle.placement.specs.Place.{no_range}
use Rattle.bus.specs.Bus.{function_at, bar_on, range_on, key_of}
use Rattle.bus.specs.Start.{declared_function, addresses_in}
use Rattle.bus.specs.Sound.{started_bus, plan_on, Clear, Sound}
use Rattle.bus.specs.declared.state.Bus.{Bus}
use Rattle.bus.proofs.Committed.{range_slot}
use Rattle.bus.proofs.Powered.{start_bar, bus_count_on, bus_function}
use Rattle.bus.proofs.Sounds.{started_clear}
use Rattle.bus.proofs.SoundParts.{sound_count, sound_plan, sound_sized}

-- ranges that are clear, said otherwise
pub clear_same : (a : Aperture) (at to : ℕ → Range) → ((k : ℕ) → to k ≡ at k) → Clear a at → Clear a to
clear_same a at to e c =
    record {
      aligned = λ k. rw (e k) (c.aligned k);
      within = λ k. rw (e k) (c.within k);
      below = λ k. rw (e k) (c.below k);
      apart = λ j k n. rw (e j, e k) (c.apart j k n);
    }

module _ (d : Declaration) (b : Bus) (s : Sound d b) where
  -- what stands at a key
  pub sound_range : (key : ℕ) → key / bar_count < d.count → range_on b key ≡ range_of (bar_on b key)
  unfolding range_on
  sound_range key h = rw (sound_count d b s, lt-ltb (key / bar_count) d.count h)

  pub sound_no_range : (key : ℕ) → d.count ≤ key / bar_count → range_on b key ≡ no_range
  unfolding range_on
  sound_no_range key h = rw (sound_count d b s, le-ltb (key / bar_count) d.count h)

  -- where a reset puts a BAR is where it started
  plan_started : (key : ℕ) → plan_on b key ≡ range_on (started_bus d) key
  unfolding plan_on range_on
  plan_started key =
      let k = key / bar_count in
      let i = key % bar_count in
      let f = declared_function d k in
      let a = (addresses_in d) in
      ⊎_elim (λ (h : k < d.count). rw (sound_count d b s, bus_count_on d s.good a, lt-ltb k d.count h, sound_plan d b s k h i (mod-lt key (omega arith)), bus_function d s.good a k h, start_bar f a k i (mod-lt key (omega arith))))
      (λ (h : d.count ≤ k). rw (sound_count d b s, bus_count_on d s.good a, le-ltb k d.count h))
      (below_or_not k d.count)

  -- so those ranges are clear too: a reset asks nothing
  pub sound_planned : Clear b.aperture (plan_on b)
  sound_planned =
      subst (λ (a : Aperture). Clear a (plan_on b)) (sym s.aperture)
      (clear_same d.aperture (range_on (started_bus d)) (plan_on b) plan_started (started_clear d s.good s.accepted))

  -- a register shows a committed address as it is, and takes it back as an address
  pub sound_address : (k i : ℕ) → k < d.count → i < bar_count → 0 < (bar_at (function_at b k).bars i).plan.size → Address (bar_at (function_at b k).bars i).address
  sound_address k i h l z =
      let key = key_of k i in
      let e : range_on b key ≡ range_of (bar_at (function_at b k).bars i) = range_slot b k i (rw (sound_count d b s) h) l in
      let m = s.committed.aligned key (rw e z) in
      placed_address (bar_at (function_at b k).bars i).plan.size (bar_at (function_at b k).bars i).address (sound_sized d b s k h i l z)
      (multiple_zero (range_of (bar_at (function_at b k).bars i)) (rw e at m))
      (rw e at (s.committed.below key))
