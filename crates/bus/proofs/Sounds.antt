-- A bus starts sound: the declaration is good, and placement's addresses are clear at all keys at once.
use Prim.Native.Nat.{ℕ, ◌/◌, ◌<◌, ◌≤◌}
use mathlib.Core.Bool.{true, false}
use mathlib.Core.List.{List}
use mathlib.Core.Logic.{⊎_elim}
use mathlib.Core.Path.{◌≡◌, refl, sym, subst}
use native.Mathlib.Omega.{arith}
use Rattle.word.proofs.Tests.{below_or_not}
use Rattle.address.specs.Layout.{bar_count}
use Rattle.address.specs.Limits.{Limits}
use Rattle.bar.specs.Range.{four_gib, end_of, multiple, lies_in, meets}
use Rattle.bar.specs.declared.range.Aperture.{Aperture}
use Rattle.bar.specs.declared.range.Range.{Range}
use Rattle.bar.proofs.Ranges.{empty_first, empty_second}
use Rattle.config.proofs.Kept.{same_refl}
use Rattle.placement.specs.Keys.{key_count, bars_of}
use Rattle.placement.specs.Order.{range_at}
use Rattle.placement.specs.Place.{no_range}
use Rattle.std.specs.Prelude.{is_ok, Ok}
use Rattle.placement.proofs.Answers.{placement_resolved, placement_end}
use Rattle.declaration.specs.Good.{Bytes, Within, Good}
use Rattle.declaration.specs.declared.answer.Declaration.{Declaration}
use Rattle.declaration.proofs.Goods.{accepted_good}
use Rattle.bus.specs.Bus.{range_on}
use Rattle.bus.specs.Start.{declared_function, declared_bars, placement_in, addresses_in, bus_given, start_of}
use Rattle.bus.specs.Sound.{started_function, started_bus, Clear, SoundFunction, Sound, SoundStart}
use Rattle.bus.specs.Outcome.{declaration_of}
use Rattle.bus.proofs.Outcomes.{start_accepted}
use Rattle.bus.proofs.Powered.{start_live, start_long, start_bytes, start_masks, start_six, start_powered, bus_count, bus_aperture, bus_devices, bus_room, bus_device, bus_function, bus_past, bus_range, bus_no_range}

module _ (d : Declaration) (g : Good d) (e : placement_in d ≡ Ok (addresses_in d)) where
  abbrev addresses : List ℕ
  addresses = (addresses_in d)

  -- the range at a key is one that placement gave, or empty
  by_key : (key : ℕ) (P : Range → Type 0) → (key / bar_count < d.count → key < key_count → P (range_at (bars_of (declared_bars d)) addresses key)) → (d.count ≤ key / bar_count → P no_range) → P (range_on (started_bus d) key)
  by_key key P given none =
      ⊎_elim (λ (h : key / bar_count < d.count). rw (bus_range d g addresses key h) (given h (omega (arith, g.functions.few))))
      (λ (h : d.count ≤ key / bar_count). rw (bus_no_range d g addresses key h) (none h))
      (below_or_not (key / bar_count) d.count)

  pub started_clear : Clear d.aperture (range_on (started_bus d))
  started_clear =
      let r = placement_resolved d.aperture (declared_bars d) addresses e in
      record {
        aligned = λ k. by_key k (λ s. 0 < s.size → multiple s ≡ true) (λ h l z. r.aligned k l z) (λ h z. absurd (omega arith));
        within = λ k. by_key k (λ s. 0 < s.size → lies_in d.aperture s ≡ true) (λ h l z. r.within k l z) (λ h z. absurd (omega arith));
        below = λ k. by_key k (λ s. end_of s ≤ four_gib) (λ h l. placement_end d.aperture (declared_bars d) addresses e g.aperture.most k l) (λ h. omega arith);
        apart = λ j k n. by_key j (λ s. meets s (range_on (started_bus d) k) ≡ false)
            (λ h l. by_key k (λ s. meets (range_at (bars_of (declared_bars d)) addresses j) s ≡ false) (λ i m. r.apart j k l m n) (λ i. empty_second _ no_range refl))
            (λ h. empty_first no_range _ refl);
      }

  -- a function as it starts
  function_sound : (k : ℕ) → SoundFunction (started_function d k) (started_function d k)
  function_sound k =
      let f = declared_function d k in
      let c = (g.functions.each k).contents in
      record {
        same = same_refl (started_function d k);
        long = start_long f addresses k;
        bytes = start_bytes f addresses k c.bodies;
        masks = start_masks f addresses k c.masks;
        unmasked = λ j i h z. rw (start_live f addresses k);
        six = start_six f addresses k;
      }

  pub started_sound : Sound d (started_bus d)
  started_sound =
      let n = bus_count d g addresses in
      record {
        good = g;
        accepted = e;
        aperture = bus_aperture d g addresses;
        count = n;
        few = rw n g.functions.few;
        devices = bus_devices d g addresses;
        ascends = λ j k h l. let m : k < d.count = rw n at l in rw (bus_device d g addresses j (omega arith), bus_device d g addresses k m) (g.functions.ascends j k h m);
        most = λ k l. let m : k < d.count = rw n at l in rw (bus_device d g addresses k m) (g.functions.each k).device;
        room = bus_room d g addresses;
        functions = λ k l. let m : k < d.count = rw n at l in rw (bus_function d g addresses k m) (function_sound k);
        past = λ k l. bus_past d g addresses k (rw n at l);
        committed = subst (λ (a : Aperture). Clear a (range_on (started_bus d))) (sym (bus_aperture d g addresses)) started_clear;
      }

  pub started_start : SoundStart d (started_bus d)
  started_start =
      record {
        sound = started_sound;
        powered = λ k l. let m : k < d.count = rw (bus_count d g addresses) at l in rw (bus_function d g addresses k m) (start_powered (declared_function d k) addresses k);
      }

-- the theorem: an accepted file of bytes starts a sound bus, with every function as at power-on
pub start_sound : (l : Limits) → Within l → (file : List ℕ) → Bytes file → is_ok (start_of l file) ≡ true → SoundStart (declaration_of l file) (bus_given (start_of l file))
start_sound l w file b e =
    let a = start_accepted l file e in
    rw a.bus (started_start (declaration_of l file) (accepted_good l w file b (declaration_of l file) a.declared) a.placed)
