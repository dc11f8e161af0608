-- On a sound bus the committed address of a BAR is accepted as a candidate of its own.
use Prim.Native.Nat.{ℕ, ◌<◌}
use mathlib.Core.Bool.{true}
use mathlib.Core.Path.{◌≡◌}
use native.Mathlib.Omega.{arith}
use Rattle.address.specs.Layout.{bar_count}
use Rattle.bar.specs.State.{range_of}
use Rattle.declaration.specs.declared.answer.Declaration.{Declaration}
use Rattle.bus.specs.Access.{accepts}
use Rattle.bus.specs.Bus.{count_on, range_on, key_of, bar_in}
use Rattle.bus.specs.Sound.{Sound}
use Rattle.bus.specs.declared.state.Bus.{Bus}
use Rattle.bus.proofs.AcceptExact.{acceptable_accepts}
use Rattle.bus.proofs.Committed.{range_slot}
use Rattle.bus.proofs.SoundParts.{sound_count}

module _ (d : Declaration) (b : Bus) (s : Sound d b) (k i : ℕ) (h : k < d.count) (l : i < bar_count) where
  there : k < count_on b
  there = rw (sound_count d b s) h

  own_range : range_on b (key_of k i) ≡ range_of (bar_in b k i)
  own_range = range_slot b k i there l

  pub own_accepted : 0 < (bar_in b k i).plan.size → accepts b k i (bar_in b k i).address ≡ true
  own_accepted z =
      acceptable_accepts b k i (bar_in b k i).address there l
      (record {
        aligned = rw own_range at (s.committed.aligned (key_of k i) (rw own_range z));
        within = rw own_range at (s.committed.within (key_of k i) (rw own_range z));
        clear = λ j g m n o. rw (own_range, range_slot b j g m n) at (s.committed.apart (key_of k i) (key_of j g) (λ q. o (omega arith, omega arith)));
      })
