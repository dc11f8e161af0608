-- Devices of a sound bus: each declared function is found by its device, and no other device is found.
use Prim.Native.Nat.{ℕ, ◌<◌, ◌≤◌}
use mathlib.Core.Logic.{⊎_elim}
use mathlib.Core.Path.{◌≡◌, sym, ◌∙◌}
use native.Mathlib.Omega.{arith}
use borrow.Author.Tests.{eq-eqb, ne_eqb}
use lib.Dec.{eqb}
use lib.ListN.{get_or-eq_default}
use Rattle.word.proofs.Searches.{least_at, least_none}
use Rattle.word.proofs.Tables.{filled_length, filled_at, filled_past}
use Rattle.word.proofs.Tests.{below_or_not}
use Rattle.address.specs.Layout.{config_space_size}
use Rattle.address.specs.Check.{access_of}
use Rattle.address.specs.Limits.{function_room}
use Rattle.config.specs.Read.{read_of}
use Rattle.declaration.specs.declared.answer.Declaration.{Declaration}
use Rattle.bus.specs.Access.{absent_read, bus_read_of, absent_write, written_on, bus_write_of}
use Rattle.bus.specs.Bus.{count_on, device_at, function_at, index_in, index_on}
use Rattle.bus.specs.Start.{declared_function, devices_of}
use Rattle.bus.specs.Sound.{Sound}
use Rattle.bus.specs.declared.state.Bus.{Bus}
use Rattle.bus.proofs.Dispatch.{read_declared, read_absent, write_declared, write_absent}
use Rattle.bus.proofs.SoundParts.{sound_count}

module _ (d : Declaration) (b : Bus) (s : Sound d b) where
  pub sound_device : (k : ℕ) → k < d.count → device_at b k ≡ (declared_function d k).device
  unfolding devices_of
  sound_device k h = rw s.devices (filled_at function_room (λ k. (declared_function d k).device) 0 d.count k 0 (omega (arith, s.good.functions.few)) h)

  -- past the last there is none
  pub sound_no_device : (k : ℕ) → d.count ≤ k → device_at b k ≡ 0
  unfolding devices_of
  sound_no_device k h =
      rw s.devices
      (⊎_elim (λ (l : k < function_room). filled_past function_room (λ k. (declared_function d k).device) 0 d.count k 0 l h)
      (λ (l : function_room ≤ k). get_or-eq_default (devices_of d) 0 {n = k} (rw (filled_length function_room (λ k. (declared_function d k).device) 0 d.count) l))
      (below_or_not k function_room))

  -- an earlier device is a lower one
  before_not : (j k : ℕ) → j < k → k < d.count → device_at b j ≡ (declared_function d k).device → ⊥
  before_not j k l h e =
      let n = s.count in
      omega (arith, s.ascends j k l (omega arith), sound_device k h)

  module _ (k : ℕ) (h : k < d.count) where
    pub sound_index : index_on b (declared_function d k).device ≡ k
    unfolding index_in
    sound_index =
        least_at (λ j. eqb (device_at b j) (declared_function d k).device) (count_on b) k (rw (sound_count d b s) h) (eq-eqb (device_at b k) (declared_function d k).device (sound_device k h))
        (λ j l. ne_eqb (device_at b j) (declared_function d k).device (before_not j k l h))

    found : index_on b (declared_function d k).device < count_on b
    found = rw (sound_index, sound_count d b s) h

    -- so an access by device goes to that function
    pub sound_read : (o w : ℕ) → bus_read_of b (declared_function d k).device o w ≡ read_of (function_at b k) o w
    sound_read o w = read_declared b (declared_function d k).device o w found ∙ rw sound_index

    pub sound_written : (o w v : ℕ) → bus_write_of b (declared_function d k).device o w v ≡ written_on b k o w v
    sound_written o w v = write_declared b (declared_function d k).device o w v found ∙ rw sound_index

  -- no two functions have one device
  pub sound_only : (j k : ℕ) → j < d.count → k < d.count → (declared_function d k).device ≡ device_at b j → j ≡ k
  sound_only j k m h e = sym (sound_index j m) ∙ rw (← sound_device j m, ← e) (sound_index k h)

  -- a device of no declared function
  module _ (device : ℕ) (none : (k : ℕ) → k < d.count → (declared_function d k).device ≡ device → ⊥) where
    pub sound_no_index : index_on b device ≡ count_on b
    unfolding index_in
    sound_no_index =
        least_none (λ j. eqb (device_at b j) device) (count_on b) (λ j l.
        let h : j < d.count = rw (sound_count d b s) at l in
        ne_eqb (device_at b j) device (λ e. none j h (sym (sound_device j h) ∙ e)))

    pub sound_no_read : (o w : ℕ) → bus_read_of b device o w ≡ absent_read (access_of config_space_size o w)
    sound_no_read o w = read_absent b device o w (omega (arith, sound_no_index))

    pub sound_no_write : (o w v : ℕ) → bus_write_of b device o w v ≡ absent_write b (access_of config_space_size o w)
    sound_no_write o w v = write_absent b device o w v (omega (arith, sound_no_index))
