-- The bus of a declaration, part by part: its devices, its functions, their BARs, and the range at each key.
use Prim.Native.Nat.{ℕ, ◌/◌, ◌%◌, ◌<◌, ◌≤◌}
use mathlib.Core.List.{List}
use mathlib.Core.Logic.{⊎_elim}
use mathlib.Core.Path.{◌≡◌, refl, ◌∙◌}
use native.Mathlib.Nat.{mod-lt}
use native.Mathlib.Omega.{arith}
use borrow.Author.Tests.{lt-ltb, le-ltb}
use lib.ListN.{length, length-map, get_or-map, get_or-eq_default}
use Rattle.word.proofs.Tables.{length_table, get_or_table, filled_length, filled_at, filled_past}
use Rattle.word.proofs.Tests.{below_or_not}
use Rattle.address.specs.Layout.{config_space_size, bar_count}
use Rattle.address.specs.Limits.{function_room}
use Rattle.bar.specs.State.{no_state, fresh, reset_of}
use Rattle.config.specs.State.{bar_at}
use Rattle.config.specs.declared.function.Function.{Function}
use Rattle.config.specs.declared.state.FunctionState.{FunctionState}
use Rattle.config.proofs.Images.{image_size, mask_size}
use Rattle.config.proofs.Ranges.{image_lt, mask_lt}
use Rattle.placement.specs.Keys.{bars_of}
use Rattle.placement.specs.Order.{range_at}
use Rattle.placement.specs.Place.{no_range}
use Rattle.declaration.specs.Good.{Bytes, Good}
use Rattle.declaration.specs.declared.answer.Declaration.{Declaration}
use Rattle.bus.specs.Bus.{no_function_state, count_on, device_at, function_at, key_of, range_on}
use Rattle.bus.specs.Start.{declared_function, declared_bars, plan_at, bars_placed, placed_in, function_start, devices_of, functions_of, bus_of}
use Rattle.bus.specs.Sound.{AtPowerOn}
use Rattle.bus.proofs.Keyed.{key_bar}

-- a function at power-on
module _ (f : Function) (addresses : List ℕ) (k : ℕ) where
  abbrev start : FunctionState
  start = function_start f addresses k

  pub start_live : start.live ≡ start.power_on
  unfolding function_start
  start_live = refl

  pub start_revision : start.revision ≡ 0
  unfolding function_start
  start_revision = refl

  pub start_long : length start.live ≡ config_space_size
  unfolding function_start
  start_long = image_size config_space_size f.contents (bars_placed f addresses k) (placed_in f)

  pub start_bytes : Bytes f.contents.bodies → Bytes start.live
  unfolding function_start
  start_bytes h j =
      ⊎_elim (λ (l : j < config_space_size). image_lt config_space_size f.contents (bars_placed f addresses k) (placed_in f) j l h)
      (λ (l : config_space_size ≤ j). rw (get_or-eq_default start.live 0 {n = j} (rw start_long l)) (omega arith))
      (below_or_not j config_space_size)

  start_mask : length start.mask ≡ config_space_size
  unfolding function_start
  start_mask = mask_size config_space_size f.contents (bars_placed f addresses k) (placed_in f)

  pub start_masks : Bytes f.contents.masks → Bytes start.mask
  unfolding function_start
  start_masks h j =
      ⊎_elim (λ (l : j < config_space_size). mask_lt config_space_size f.contents (bars_placed f addresses k) (placed_in f) j l h)
      (λ (l : config_space_size ≤ j). rw (get_or-eq_default start.mask 0 {n = j} (rw start_mask l)) (omega arith))
      (below_or_not j config_space_size)

  pub start_six : length start.bars ≡ bar_count
  unfolding function_start bars_placed
  start_six = length-map (bars_placed f addresses k) reset_of ∙ length_table bar_count (λ i. fresh (plan_at f addresses k i))

  -- every BAR is where it was placed
  start_reset : (i : ℕ) → bar_at start.bars i ≡ reset_of (bar_at (bars_placed f addresses k) i)
  unfolding function_start
  start_reset i = get_or-map reset_of (bars_placed f addresses k) i no_state

  pub start_bar : (i : ℕ) → i < bar_count → bar_at start.bars i ≡ fresh (plan_at f addresses k i)
  unfolding bars_placed
  start_bar i h = start_reset i ∙ rw (get_or_table bar_count (λ i. fresh (plan_at f addresses k i)) i no_state h)

  pub start_powered : AtPowerOn start
  start_powered =
      record { live = start_live; placed = λ i. rw (start_reset i); quiet = λ i. rw (start_reset i); revision = start_revision }

-- the bus of a good declaration
module _ (d : Declaration) (g : Good d) (addresses : List ℕ) where
  pub bus_count : (bus_of d addresses).count ≡ d.count
  unfolding bus_of
  bus_count = refl

  pub bus_aperture : (bus_of d addresses).aperture ≡ d.aperture
  unfolding bus_of
  bus_aperture = refl

  pub bus_devices : (bus_of d addresses).devices ≡ devices_of d
  unfolding bus_of
  bus_devices = refl

  pub bus_room : length (bus_of d addresses).functions ≡ function_room
  unfolding bus_of functions_of
  bus_room = filled_length function_room (λ k. function_start (declared_function d k) addresses k) no_function_state d.count

  pub bus_device : (k : ℕ) → k < d.count → device_at (bus_of d addresses) k ≡ (declared_function d k).device
  unfolding bus_of devices_of
  bus_device k h = filled_at function_room (λ k. (declared_function d k).device) 0 d.count k 0 (omega (arith, g.functions.few)) h

  pub bus_function : (k : ℕ) → k < d.count → function_at (bus_of d addresses) k ≡ function_start (declared_function d k) addresses k
  unfolding bus_of functions_of
  bus_function k h =
      filled_at function_room (λ k. function_start (declared_function d k) addresses k) no_function_state d.count k no_function_state (omega (arith, g.functions.few)) h

  blank_past : (k : ℕ) → k < function_room → d.count ≤ k → function_at (bus_of d addresses) k ≡ no_function_state
  unfolding bus_of functions_of
  blank_past k l h = filled_past function_room (λ k. function_start (declared_function d k) addresses k) no_function_state d.count k no_function_state l h

  -- blanks past the last
  pub bus_past : (k : ℕ) → d.count ≤ k → function_at (bus_of d addresses) k ≡ no_function_state
  bus_past k h =
      ⊎_elim (λ (l : k < function_room). blank_past k l h)
      (λ (l : function_room ≤ k). get_or-eq_default (bus_of d addresses).functions no_function_state {n = k} (rw bus_room l))
      (below_or_not k function_room)

  pub bus_count_on : count_on (bus_of d addresses) ≡ d.count
  bus_count_on = rw bus_count (omega (arith, g.functions.few))

  -- the range at a key is the one that placement gave it
  pub bus_range : (key : ℕ) → key / bar_count < d.count → range_on (bus_of d addresses) key ≡ range_at (bars_of (declared_bars d)) addresses key
  unfolding range_on
  bus_range key h =
      let k = key / bar_count in
      let i = key % bar_count in
      let n : key_of k i ≡ key = omega arith in
      rw (bus_count_on, lt-ltb k d.count h, bus_function k h, start_bar (declared_function d k) addresses k i (mod-lt key (omega arith)), n, ← key_bar d g key h)

  pub bus_no_range : (key : ℕ) → d.count ≤ key / bar_count → range_on (bus_of d addresses) key ≡ no_range
  unfolding range_on
  bus_no_range key h = rw (bus_count_on, le-ltb (key / bar_count) d.count h)
