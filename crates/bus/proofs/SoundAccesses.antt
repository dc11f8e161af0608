-- A sound bus stays sound through every write by device and every reset.
use Prim.Native.Nat.{ℕ, ◌<◌, ◌≤◌}
use mathlib.Core.Bool.{false}
use mathlib.Core.Logic.{⊎_elim}
use mathlib.Core.Path.{◌≡◌, refl, ◌∙◌}
use native.Mathlib.Omega.{arith}
use lib.ListN.{get_or}
use Rattle.word.proofs.Tests.{below_or_not}
use Rattle.bar.specs.Range.{range, meets}
use Rattle.bar.specs.declared.range.Range.{Range}
use Rattle.bar.proofs.Ranges.{empty_second}
use Rattle.config.specs.State.{bar_at}
use Rattle.placement.specs.Keys.{key_count}
use Rattle.placement.specs.Place.{no_range}
use Rattle.declaration.specs.declared.answer.Declaration.{Declaration}
use Rattle.bus.specs.Bus.{count_on, function_at, range_on, key_of}
use Rattle.bus.specs.Access.{ranges_but, bus_write_of}
use Rattle.bus.specs.Reset.{reset_first, bus_reset_of}
use Rattle.bus.specs.Sound.{Sound}
use Rattle.bus.specs.declared.state.Bus.{Bus}
use Rattle.bus.proofs.AcceptExact.{other_range, accepts_place}
use Rattle.bus.proofs.AccessCases.{access_by}
use Rattle.bus.proofs.RestoredBars.{reset_function}
use Rattle.bus.proofs.Restores.{reset_length, reset_past}
use Rattle.bus.proofs.SoundParts.{sound_count}
use Rattle.bus.proofs.SoundRanges.{sound_no_range}
use Rattle.bus.proofs.SoundBuses.{sound_write, sound_kept, sound_moved, sound_reset}

module _ (d : Declaration) (b : Bus) (s : Sound d b) where
  -- past the last key there is no range to meet
  clear_of : (r : Range) (key : ℕ) → ((n : ℕ) → meets r (get_or (ranges_but b key) n no_range) ≡ false) → (n : ℕ) → (n ≡ key → ⊥) → meets r (range_on b n) ≡ false
  clear_of r key free n q =
      ⊎_elim (λ (h : n < key_count). rw (← other_range b key n h q) (free n))
      (λ (h : key_count ≤ n). rw (sound_no_range d b s n (let c = s.count in let f = s.few in omega arith)) (empty_second r no_range refl))
      (below_or_not n key_count)

  declared : (k : ℕ) → k < count_on b → k < d.count
  declared k h = rw (sound_count d b s) at h

  pub sound_access : (device o w v : ℕ) → Sound d (bus_write_of b device o w v).bus
  sound_access device o w v =
      access_by (λ t. Sound d t.bus) b o w v
      (record {
        still = λ a e. s;
        stored = λ k h. sound_write d b s k (declared k h) o w v;
        probing = λ k i h. sound_write d b s k (declared k h) o w v;
        moved = λ k i a h l t.
            let p = accepts_place b k i a t in
            sound_moved d b s k (declared k h) i l a p.aligned p.within (clear_of (range a (bar_at (function_at b k).bars i).plan.size) (key_of k i) p.free);
        kept = λ k i a h l t. sound_kept d b s k (declared k h) i l;
      })
      device

  pub sound_restored : Sound d (bus_reset_of b).bus
  unfolding bus_reset_of
  sound_restored =
      sound_reset d b s (reset_first b.functions (count_on b)) (reset_length b.functions (count_on b) ∙ s.room)
      (reset_function d b s)
      (λ k h. reset_past b.functions (count_on b) k (rw (sound_count d b s) h) ∙ s.past k (rw s.count h))
