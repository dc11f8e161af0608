-- What a sound bus says of each function and each BAR: all but live bytes and committed addresses is the declaration's.
use Prim.Native.Nat.{ℕ, ◌<◌}
use mathlib.Core.List.{List}
use mathlib.Core.Path.{◌≡◌, ap, ◌∙◌}
use native.Mathlib.Nat.{zero-div}
use native.Mathlib.Omega.{arith}
use lib.ListN.{get_or}
use Rattle.word.specs.Bit.{bit}
use Rattle.address.specs.Layout.{config_space_size, bar_count}
use Rattle.bar.specs.Bar.{Sized, no_bar}
use Rattle.bar.specs.declared.bar_state.BarState.{BarState}
use Rattle.bar.specs.declared.memory_bar.MemoryBar.{MemoryBar}
use Rattle.capability.specs.Layout.{placed_of}
use Rattle.config.specs.Admitted.{Admitted}
use Rattle.config.specs.PowerOn.{power_on_of}
use Rattle.config.specs.Same.{Same}
use Rattle.config.specs.State.{bar_at}
use Rattle.config.specs.declared.state.FunctionState.{FunctionState}
use Rattle.declaration.specs.Good.{GoodSlot, empty, used}
use Rattle.declaration.specs.declared.answer.Declaration.{Declaration}
use Rattle.declaration.proofs.Goods.{faultless_layout, faultless_admitted}
use Rattle.bus.specs.Bus.{count_on, function_at}
use Rattle.bus.specs.Start.{declared_function, plan_at, bars_placed, function_start, addresses_in}
use Rattle.bus.specs.Sound.{started_function, SoundFunction, Sound}
use Rattle.bus.specs.declared.state.Bus.{Bus}
use Rattle.bus.proofs.BitNumbers.{same_bits}
use Rattle.bus.proofs.Powered.{start_live, start_bytes, start_bar}

-- what is the same of a and b, and of b and c, is the same of a and c
pub same_trans : (a b c : FunctionState) → Same a b → Same b c → Same a c
same_trans a b c p q =
    record { space = q.space ∙ p.space; power_on = q.power_on ∙ p.power_on; mask = q.mask ∙ p.mask; placed = q.placed ∙ p.placed; plans = λ i. q.plans i ∙ p.plans i }

-- zero has no bit
zero_bit : (i : ℕ) → bit 0 i ≡ 0
zero_bit i = rw (zero-div)

module _ (d : Declaration) (b : Bus) (s : Sound d b) where
  pub sound_count : count_on b ≡ d.count
  sound_count = let c = s.count in let f = s.few in omega arith

  module _ (k : ℕ) (h : k < d.count) where
    abbrev its : SoundFunction (started_function d k) (function_at b k)
    its = s.functions k (rw s.count h)

    -- the declared capabilities have their layout, and the config bytes lie outside of it
    pub sound_admitted : Admitted config_space_size (declared_function d k).contents (placed_of (declared_function d k).capabilities)
    sound_admitted = faultless_admitted (declared_function d k) (s.good.faultless k h)

    pub sound_placed : (function_at b k).placed ≡ placed_of (declared_function d k).capabilities
    unfolding function_start
    sound_placed = its.same.placed ∙ faultless_layout (declared_function d k) (s.good.faultless k h)

    -- the power-on image and the masks are the declared ones
    abbrev bars : List BarState
    bars = bars_placed (declared_function d k) (addresses_in d) k

    pub sound_image : (function_at b k).power_on ≡ (power_on_of config_space_size (declared_function d k).contents bars (placed_of (declared_function d k).capabilities)).image
    unfolding function_start
    sound_image = its.same.power_on ∙ rw (faultless_layout (declared_function d k) (s.good.faultless k h))

    pub sound_mask : (function_at b k).mask ≡ (power_on_of config_space_size (declared_function d k).contents bars (placed_of (declared_function d k).capabilities)).mask
    unfolding function_start
    sound_mask = its.same.mask ∙ rw (faultless_layout (declared_function d k) (s.good.faultless k h))

    -- a byte that no write can change is the one at power-on
    power_on_byte : (j : ℕ) → get_or (function_at b k).power_on j 0 < 256
    power_on_byte j =
        rw (its.same.power_on, ← start_live (declared_function d k) (addresses_in d) k)
        (start_bytes (declared_function d k) (addresses_in d) k (s.good.functions.each k).contents.bodies j)

    pub sound_byte : (j : ℕ) → get_or (function_at b k).mask j 0 ≡ 0 → get_or (function_at b k).live j 0 ≡ get_or (function_at b k).power_on j 0
    sound_byte j e = same_bits 8 _ _ (its.bytes j) (power_on_byte j) (λ i l. its.unmasked j i l (rw e (zero_bit i)))

    -- each plan is the declared BAR at the address that placement gave
    pub sound_plan : (i : ℕ) → i < bar_count → (bar_at (function_at b k).bars i).plan ≡ plan_at (declared_function d k) (addresses_in d) k i
    sound_plan i l = its.same.plans i ∙ rw (start_bar (declared_function d k) (addresses_in d) k i l)

    by_slot : (i : ℕ) (m : MemoryBar) → GoodSlot i m → 0 < m.size → Sized m.size
    by_slot i m (empty e) z = let q = ap (λ (m : MemoryBar). m.size) e in absurd (omega arith)
    by_slot i m (used e n a) z = n

    -- a size is none or by the rule
    pub sound_sized : (i : ℕ) → i < bar_count → 0 < (bar_at (function_at b k).bars i).plan.size → Sized (bar_at (function_at b k).bars i).plan.size
    sound_sized i l z =
        rw (sound_plan i l)
        (by_slot i (get_or (declared_function d k).bars i no_bar) ((s.good.functions.each k).bars i l) (rw (sound_plan i l) at z))
