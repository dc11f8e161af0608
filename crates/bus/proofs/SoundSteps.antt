-- A function stays sound through its own steps: a write, the end of a relocation, a reset.
use Rattle.std.specs.Prelude.{Option}
use Prim.Native.Nat.{ℕ, ◌<◌, ◌≤◌}
use mathlib.Core.Logic.{⊎_elim}
use mathlib.Core.Path.{◌≡◌, sym, ◌∙◌}
use lib.ListN.{length, get_or, length-set, length-map, get_or-eq_default}
use Rattle.word.specs.Bit.{bit}
use Rattle.word.proofs.Stores.{stored_length, stored_byte_lem}
use Rattle.word.proofs.Tests.{below_or_not}
use Rattle.address.specs.Kinds.{slot}
use Rattle.address.specs.Layout.{config_space_size, bar_count}
use Rattle.address.proofs.Slots.{index_is}
use Rattle.bar.specs.State.{reset_of, probed, relocated}
use Rattle.config.specs.Reset.{reset_done}
use Rattle.config.specs.Same.{Same}
use Rattle.config.specs.State.{bar_at, slot_at}
use Rattle.config.specs.Write.{write_of, relocated_in}
use Rattle.config.specs.declared.state.FunctionState.{FunctionState}
use Rattle.config.proofs.Resets.{reset_state}
use Rattle.config.proofs.Kept.{write_same, relocation_same, reset_same, reset_live, unmasked_bit_stays}
use Rattle.config.proofs.WriteCases.{state_by}
use Rattle.declaration.specs.Good.{Good}
use Rattle.declaration.specs.declared.answer.Declaration.{Declaration}
use Rattle.bus.specs.Start.{declared_function, addresses_in}
use Rattle.bus.specs.Sound.{started_function, SoundFunction}
use Rattle.bus.proofs.Powered.{start_live, start_long, start_bytes}
use Rattle.bus.proofs.SoundParts.{same_trans}

module _ (start f : FunctionState) (s : SoundFunction start f) where
  module _ (o w v : ℕ) where
    abbrev g : FunctionState
    g = (write_of f o w v).state

    write_long : length g.live ≡ config_space_size
    write_long = state_by (λ g. length g.live ≡ config_space_size) f o w v s.long s.long (stored_length f.mask f.live o w v ∙ s.long)

    write_bytes : (j : ℕ) → get_or g.live j 0 < 256
    write_bytes = state_by (λ g. (j : ℕ) → get_or g.live j 0 < 256) f o w v s.bytes s.bytes (λ j. stored_byte_lem f.mask f.live o w v j s.masks s.bytes)

    write_six : length g.bars ≡ bar_count
    write_six = state_by (λ g. length g.bars ≡ bar_count) f o w v s.six (length-set f.bars (slot_at o) (probed (bar_at f.bars (slot_at o))) ∙ s.six) s.six

    -- no bit changes whose mask is 0
    bit_stays : (j i : ℕ) → i < 8 → bit (get_or f.mask j 0) i ≡ 0 → bit (get_or g.live j 0) i ≡ bit (get_or f.live j 0) i
    bit_stays j i h z =
        ⊎_elim (λ (l : j < length f.live). unmasked_bit_stays f o w v j i l (s.masks j) h z)
        (λ (l : length f.live ≤ j). rw (get_or-eq_default g.live 0 {n = j} (rw (write_long, ← s.long) l), get_or-eq_default f.live 0 {n = j} l))
        (below_or_not j (length f.live))

    pub write_sound : SoundFunction start g
    write_sound =
        let q = write_same f o w v in
        record {
          same = same_trans start f g s.same q;
          long = write_long;
          bytes = write_bytes;
          masks = rw q.mask s.masks;
          unmasked = λ j i h z. let m : bit (get_or f.mask j 0) i ≡ 0 = rw q.mask at z in bit_stays j i h m ∙ rw q.power_on (s.unmasked j i h m);
          six = write_six;
        }

  -- a candidate that is taken, or is not
  relocation_sames : (i : ℕ) (r : Option ℕ) → i < bar_count → Same f (relocated_in f i r)
  relocation_sames i r h = rw (index_is i h) at (relocation_same f (slot i) r)

  pub relocation_sound : (i : ℕ) (r : Option ℕ) → i < bar_count → SoundFunction start (relocated_in f i r)
  relocation_sound i r h =
      record {
        same = same_trans start f (relocated_in f i r) s.same (relocation_sames i r h);
        long = s.long;
        bytes = s.bytes;
        masks = s.masks;
        unmasked = s.unmasked;
        six = length-set f.bars i (relocated (bar_at f.bars i) r) ∙ s.six;
      }

-- a reset restores the image, so a good declaration is asked for its bytes
pub reset_sound : (d : Declaration) → Good d → (k : ℕ) (f : FunctionState) → SoundFunction (started_function d k) f → SoundFunction (started_function d k) (reset_done f).state
reset_sound d good k f s =
    let q = reset_same f in
    let l = reset_live f in
    let t = declared_function d k in
    let a = (addresses_in d) in
    let p : f.power_on ≡ (started_function d k).live = s.same.power_on ∙ sym (start_live t a k) in
    record {
      same = same_trans (started_function d k) f (reset_done f).state s.same q;
      long = rw (l, p) (start_long t a k);
      bytes = rw (l, p) (start_bytes t a k (good.functions.each k).contents.bodies);
      masks = rw q.mask s.masks;
      unmasked = λ j i h z. rw (l, q.power_on);
      six = rw (reset_state f) (length-map f.bars reset_of ∙ s.six);
    }
