-- One slot: what enumeration reads of it, and that it leaves the bus as it was.
use Rattle.std.specs.Prelude.{Some}
use Prim.Native.Nat.{ℕ, ◌+◌, ◌<◌, ◌≤◌}
use mathlib.Core.Bool.{Bool, true, false}
use mathlib.Core.List.{List}
use mathlib.Core.Logic.{⊎_elim}
use mathlib.Core.Path.{◌≡◌, refl, sym, ap, ◌∙◌}
use native.Mathlib.Nat.{zero-div}
use native.Mathlib.Omega.{arith}
use borrow.Author.Tests.{eq-eqb, ne_eqb}
use lib.ListN.{length, get_or}
use lib.Seq.{get_or-set_same, set-get_or, set-set}
use Rattle.std.proofs.Common.{None, Ok}
use Rattle.word.proofs.Tables.{get_or_table}
use Rattle.word.proofs.Tests.{below_or_not, same_or_not}
use Rattle.address.specs.Layout.{config_space_size, bar_count}
use Rattle.bar.specs.Range.{four_gib}
use Rattle.bar.specs.Register.{size_mask, Address}
use Rattle.bar.specs.State.{no_state, fresh, probed, relocated}
use Rattle.bar.specs.declared.bar_state.BarState.{BarState}
use Rattle.bar.specs.declared.bar_state.Plan.{Plan}
use Rattle.bar.proofs.Registers.{mask_size, mask_lt, mask_zero, address_lt}
use Rattle.bar.proofs.States.{shown_probing, shown_committed}
use Rattle.capability.specs.Layout.{placed_of}
use Rattle.capability.specs.Touch.{touch_of}
use Rattle.capability.specs.declared.placed.Placed.{Placed}
use Rattle.capability.proofs.Untouched.{low_untouched}
use Rattle.config.specs.Space.{space_of}
use Rattle.config.specs.State.{bar_at, with_bar}
use Rattle.config.specs.declared.function.Function.{Function}
use Rattle.config.specs.declared.state.FunctionState.{FunctionState}
use Rattle.config.proofs.EmptySlots.{register_unmasked, empty_register}
use Rattle.config.proofs.PlainAccesses.{unmasked_write}
use Rattle.config.proofs.Registers.{register_aligned, register_free, register_read, register_ones, register_address}
use Rattle.declaration.specs.declared.answer.Declaration.{Declaration}
use Rattle.bus.specs.Access.{accepts, written_on, bus_write_of}
use Rattle.bus.specs.Bus.{no_function_state, function_at, with_function}
use Rattle.bus.specs.Sound.{started_function, SoundFunction, Sound}
use Rattle.bus.specs.Start.{declared_function, plan_at, bars_placed, addresses_in}
use Rattle.bus.specs.declared.state.Bus.{Bus}
use Rattle.bus.specs.declared.write_access.BusWriteDone.{BusWriteDone}
use Rattle.bus.proofs.Devices.{sound_read, sound_written}
use Rattle.bus.proofs.OwnPlaces.{own_accepted}
use Rattle.bus.proofs.SoundBuses.{sound_write}
use Rattle.bus.proofs.SoundDeclared.{declared_power_on, sound_apart, sound_laid, sound_constant}
use Rattle.bus.proofs.SoundParts.{sound_admitted, sound_mask, sound_plan, sound_sized}
use Rattle.bus.proofs.SoundRanges.{sound_address}
use Rattle.enumeration.specs.Enumerate.{asked, register_at, slot_by, with_ones, after_slot, slot_read}
use Rattle.enumeration.specs.Truth.{slot_report, size_in, address_in}
use Rattle.enumeration.proofs.Constants.{plain_asked}

-- the mask of a size says it, but for 4 GiB
mask_report : (size a : ℕ) → 0 < size → size ≤ four_gib → slot_by a (size_mask size) ≡ slot_report size a
mask_report size a h m =
    ⊎_elim (λ (e : size ≡ four_gib). rw (mask_zero size (omega arith), ne_eqb size 0 (λ z. omega arith), eq-eqb size four_gib e))
    (λ (e : size ≡ four_gib → ⊥). rw (ne_eqb (size_mask size) 0 (λ z. e (omega (arith, mask_size size m))), ne_eqb size 0 (λ z. omega arith), ne_eqb size four_gib e, mask_size size m))
    (same_or_not size four_gib)

-- a BAR with the same address that does not probe is the same
bar_back : (b : BarState) → b.probing ≡ false → record { plan = b.plan; address = b.address; probing = false } ≡ b
bar_back b e = rw (← e)

module _ (d : Declaration) (b : Bus) (s : Sound d b) (k : ℕ) (h : k < d.count) (i : ℕ) (l : i < bar_count) where
  abbrev its : Function
  its = declared_function d k

  abbrev device : ℕ
  device = its.device

  abbrev now : FunctionState
  now = function_at b k

  abbrev bar : BarState
  bar = bar_at now.bars i

  abbrev sound : SoundFunction (started_function d k) now
  sound = s.functions k (rw s.count h)

  size_declared : bar.plan.size ≡ size_in its i
  size_declared = ap (λ (p : Plan). p.size) (sound_plan d b s k h i l)

  there : k < length b.functions
  there = let r = s.room in let c = s.count in let n = s.few in omega arith

  six : i < length now.bars
  six = let n = sound.six in omega arith

  -- with no BAR its register reads zero, and a write to it stores nothing
  module _ (z : bar.plan.size ≡ 0) where
    abbrev bars : List BarState
    bars = bars_placed its (addresses_in d) k

    abbrev laid : Placed
    laid = placed_of its.capabilities

    untouched : (write : Bool) → touch_of now.placed (register_at i) 4 write ≡ Ok None
    untouched write = low_untouched now.placed (sound_apart d b s k h) config_space_size (sound_laid d b s k h) (register_at i) 4 write (omega arith)

    placed_empty : (bar_at bars i).plan.size ≡ 0
    unfolding bars_placed
    placed_empty = rw (get_or_table bar_count (λ i. fresh (plan_at its (addresses_in d) k i)) i no_state l) (sym size_declared ∙ z)

    read_only : (n : ℕ) → n < 4 → get_or (declared_power_on d k).mask (register_at i + n) 0 ≡ 0
    read_only n m = register_unmasked config_space_size its.contents bars laid (sound_admitted d b s k h) i (register_at i + n) l (omega arith) (omega arith)

    blank : (n : ℕ) → n < 4 → get_or (declared_power_on d k).image (register_at i + n) 0 ≡ 0
    blank n m = empty_register config_space_size its.contents bars laid (sound_admitted d b s k h) i (register_at i + n) l (omega arith) (omega arith) placed_empty

    zero_asked : asked b device (register_at i) 4 ≡ 0
    unfolding space_of
    zero_asked =
        plain_asked d b s k h (register_at i) 4 (register_aligned now i l) (register_free now i l z) (untouched false) 0 (λ n m. sound_constant d b s k h (register_at i + n) (read_only n m) ∙ blank n m ∙ rw zero-div)

    nothing_written : (v : ℕ) → (bus_write_of b device (register_at i) 4 v).bus ≡ b
    unfolding written_on
    nothing_written v =
        rw (sound_written d b s k h (register_at i) 4 v, unmasked_write now (register_at i) 4 (register_aligned now i l) (register_free now i l z) v (untouched true) sound.bytes (λ n m. rw (sound_mask d b s k h) (read_only n m)), set-get_or b.functions k no_function_state)

    empty_after : after_slot b device i ≡ b
    unfolding after_slot
    empty_after = rw (after_slot, nothing_written 0xffffffff) (nothing_written (asked b device (register_at i) 4))

    empty_read : slot_read b device i ≡ slot_report (size_in its i) (address_in now i)
    unfolding slot_read
    empty_read = rw (nothing_written 0xffffffff, zero_asked, ← size_declared, z)

  -- with a BAR that does not probe: its address, then its mask, then its address back
  module _ (z : 0 < bar.plan.size) (q : bar.probing ≡ false) where
    address : Address bar.address
    address = sound_address d b s k i h l z

    address_asked : asked b device (register_at i) 4 ≡ bar.address
    unfolding asked
    address_asked =
        rw (sound_read d b s k h (register_at i) 4, register_read now i l z, shown_committed bar q, address.shows) (omega (arith, address_lt bar.address address))

    abbrev probing : FunctionState
    probing = with_bar now i (probed bar)

    abbrev shows : Bus
    shows = with_function b k probing

    ones_written : with_ones b device i ≡ shows
    unfolding written_on
    ones_written = ap (λ (r : BusWriteDone). r.bus) (sound_written d b s k h (register_at i) 4 0xffffffff) ∙ rw (register_ones now i l z)

    shows_sound : Sound d shows
    shows_sound = rw (register_ones now i l z) at (sound_write d b s k h (register_at i) 4 0xffffffff)

    shows_function : function_at shows k ≡ probing
    shows_function = get_or-set_same b.functions k probing no_function_state there

    shows_bar : bar_at (function_at shows k).bars i ≡ probed bar
    shows_bar = rw shows_function (get_or-set_same now.bars i (probed bar) no_state six)

    still : 0 < (bar_at (function_at shows k).bars i).plan.size
    still = rw shows_bar z

    mask_asked : asked shows device (register_at i) 4 ≡ size_mask bar.plan.size
    unfolding asked
    mask_asked =
        rw (sound_read d shows shows_sound k h (register_at i) 4, register_read (function_at shows k) i l still, shows_bar, shown_probing (probed bar) refl) (omega (arith, mask_lt bar.plan.size z))

    taken : accepts shows k i bar.address ≡ true
    taken = rw shows_bar at (own_accepted d shows shows_sound k i h l still)

    address_written : (bus_write_of shows device (register_at i) 4 bar.address).bus ≡ b
    unfolding written_on
    address_written =
        rw (
          sound_written d shows shows_sound k h (register_at i) 4 bar.address,
          register_address (function_at shows k) i l still bar.address address,
          taken,
          shows_function,
          get_or-set_same now.bars i (probed bar) no_state six,
          set-set now.bars i (probed bar) (relocated bar (Some bar.address)),
          bar_back bar q,
          set-get_or now.bars i no_state,
          set-set b.functions k probing now,
          set-get_or b.functions k no_function_state,
        )

    bar_after : after_slot b device i ≡ b
    unfolding after_slot
    bar_after = rw (after_slot, ones_written, address_asked) address_written

    bar_read : slot_read b device i ≡ slot_report (size_in its i) (address_in now i)
    unfolding slot_read
    bar_read = rw (ones_written, address_asked, mask_asked, ← size_declared) (mask_report bar.plan.size bar.address z (sound_sized d b s k h i l z).most)

  -- in either case
  module _ (q : 0 < bar.plan.size → bar.probing ≡ false) where
    pub slot_leaves : after_slot b device i ≡ b
    slot_leaves = ⊎_elim (λ (z : 0 < bar.plan.size). bar_after z (q z)) (λ (z : bar.plan.size ≤ 0). empty_after (omega arith)) (below_or_not 0 bar.plan.size)

    pub slot_truth : slot_read b device i ≡ slot_report (size_in its i) (address_in now i)
    slot_truth = ⊎_elim (λ (z : 0 < bar.plan.size). bar_read z (q z)) (λ (z : bar.plan.size ≤ 0). empty_read (omega arith)) (below_or_not 0 bar.plan.size)
