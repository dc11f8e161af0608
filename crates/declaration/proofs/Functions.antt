-- A function with nothing declared is good, and so is a good one with an INTx, a BAR, a config byte, a capability or an effect that the checks let pass.
use Prim.Native.Nat.{ℕ, ◌+◌, ◌^◌, ◌<◌, ◌≤◌}
use mathlib.Core.Bool.{false}
use mathlib.Core.List.{List}
use mathlib.Core.Logic.{⊎_elim}
use mathlib.Core.Path.{◌≡◌, refl, ◌∙◌}
use native.Mathlib.Omega.{arith}
use lib.ListN.{length, get_or, set, length-set, length-replicate}
use lib.Seq.{get_or-set_same, get_or-set_other}
use Rattle.word.proofs.Puts.{laid_length}
use Rattle.word.proofs.Tests.{same_or_not, both}
use Rattle.address.specs.Kinds.{slot, offset}
use Rattle.address.specs.Layout.{bar_count}
use Rattle.address.specs.Limits.{Limits, config_byte_room, capability_room, effect_room}
use Rattle.bar.specs.Bar.{Sized, no_bar, memory_bar}
use Rattle.bar.specs.declared.memory_bar.MemoryBar.{MemoryBar}
use Rattle.bar.specs.declared.memory_bar.Request.{Request}
use Rattle.bar.specs.declared.memory_bar.Request.TheVariants as request
use Rattle.capability.specs.BadEffect.{effect_bad}
use Rattle.capability.specs.Declaration.{capability, no_capability, none_declared, latest, with_capability, with_effect}
use Rattle.capability.specs.Effect.{effect, no_effect}
use Rattle.capability.specs.Size.{body_most}
use Rattle.capability.specs.declared.declared.Capabilities.{Capabilities}
use Rattle.capability.specs.declared.effect.EffectAccess.{EffectAccess}
use Rattle.capability.proofs.Additions.{add_good, effect_good}
use Rattle.capability.proofs.Faults.{fault_bad}
use Rattle.capability.proofs.Sounds.{none_sound, add_capability_sound, add_effect_sound}
use Rattle.config.specs.ConfigByte.{no_config_byte}
use Rattle.config.specs.Space.{body_space}
use Rattle.config.specs.declared.function.ConfigByte.{ConfigByte}
use Rattle.config.specs.declared.function.Contents.{Contents}
use Rattle.config.specs.declared.function.Identity.{Identity}
use Rattle.declaration.specs.Blank.{empty_contents, empty_function, no_identity, no_function}
use Rattle.declaration.specs.Good.{Bytes, Within, GoodIdentity, absent, pinned, GoodByte, GoodContents, GoodSlot, empty, used, GoodCapabilities, GoodFunction}
use Rattle.declaration.specs.Standing.{most_device}
use Rattle.declaration.specs.Take.{with_intx, with_byte, body_place, body_part, mask_part, bodies_with}
use Rattle.declaration.proofs.Everywhere.{blank_at_lem, table_blank_at, each_table, each_set, past_set, part_bytes, laid_bytes}
use Rattle.declaration.proofs.Masked.{Latest}

-- nothing declared
blank_byte : GoodByte no_config_byte
blank_byte = record { offset = omega arith; value = omega arith; mask = omega arith }

empty_contents_lem : (i : Identity) → GoodIdentity i → GoodContents (empty_contents i)
unfolding empty_contents
empty_contents_lem i g =
    record {
      identity = g;
      intx = absent;
      room = length-replicate config_byte_room no_config_byte;
      few = omega arith;
      bytes = λ k. rw (blank_at_lem no_config_byte config_byte_room k) blank_byte;
      past = λ k h. blank_at_lem no_config_byte config_byte_room k;
      body_room = length-replicate {A = ℕ} body_space 0;
      mask_room = length-replicate {A = ℕ} body_space 0;
      bodies = λ k. rw (blank_at_lem {A = ℕ} 0 body_space k) (omega arith);
      masks = λ k. rw (blank_at_lem {A = ℕ} 0 body_space k) (omega arith);
    }

none_good : GoodCapabilities none_declared
unfolding none_declared
none_good =
    record {
      sound = none_sound;
      ids = each_table no_capability (λ x. x.id < 256) capability_room (omega arith);
      short = each_table no_capability (λ x. x.length ≤ body_most) capability_room (omega arith);
      effect_ids = each_table no_effect (λ x. x.id < 2 ^ 16) effect_room (omega arith);
      past = λ k h. table_blank_at no_capability capability_room k;
      past_effects = λ j h. table_blank_at no_effect effect_room j;
    }

none_effects : none_declared.effect_count ≡ 0
unfolding none_declared
none_effects = refl

none_count : none_declared.count ≡ 0
unfolding none_declared
none_count = refl

pub empty_good : (device : ℕ) (i : Identity) → device ≤ most_device → GoodIdentity i → GoodFunction (empty_function device i)
unfolding empty_function
empty_good device i h g =
    record { device = h; contents = empty_contents_lem i g; bar_room = length-replicate bar_count no_bar; bars = λ k l. empty (blank_at_lem no_bar bar_count k); capabilities = none_good; read_only = λ j b l c. absurd (omega (arith, none_effects)) }

-- and no capability whose masks are asked for
pub empty_latest : (mask : List ℕ) (device : ℕ) (i : Identity) → Latest mask (empty_function device i).contents.masks (empty_function device i).capabilities
unfolding empty_function
empty_latest mask device i k h l q = absurd (omega (arith, none_count))

pub no_function_good : GoodFunction no_function
no_function_good =
    empty_good 0 no_identity (omega arith) (record { present = λ e. omega arith; vendor = omega arith; device = omega arith; subsystem_vendor = omega arith; subsystem = omega arith; revision = omega arith; base_class = omega arith; subclass = omega arith; programming_interface = omega arith })

-- the fields of a function's contents
pub intx_good : (c : Contents) (pin line : ℕ) → GoodContents c → 1 ≤ pin → pin ≤ 4 → line < 256 → GoodContents (with_intx c pin line)
intx_good c pin line g low high l =
    record { identity = g.identity; intx = pinned pin line low high l; room = g.room; few = g.few; bytes = g.bytes; past = g.past; body_room = g.body_room; mask_room = g.mask_room; bodies = g.bodies; masks = g.masks }

pub byte_good : (c : Contents) (o value mask : ℕ) → GoodContents c → c.byte_count < config_byte_room → o < 256 → value < 256 → mask < 256 → GoodContents (with_byte c o value mask)
byte_good c o value mask g h p v m =
    let x : ConfigByte = record { offset = offset o; value = value; mask = mask } in
    record {
      identity = g.identity;
      intx = g.intx;
      room = length-set c.bytes c.byte_count x ∙ g.room;
      few = omega arith;
      bytes = each_set no_config_byte GoodByte c.bytes c.byte_count x (record { offset = p; value = v; mask = m }) g.bytes;
      past = past_set no_config_byte c.bytes c.byte_count x g.past;
      body_room = g.body_room;
      mask_room = g.mask_room;
      bodies = g.bodies;
      masks = g.masks;
    }

pub bodies_good : (c : Contents) (d : Capabilities) (n : ℕ) (body : List ℕ) → GoodContents c → Bytes body → GoodContents (bodies_with c d n body)
bodies_good c d n body g b =
    record {
      identity = g.identity;
      intx = g.intx;
      room = g.room;
      few = g.few;
      bytes = g.bytes;
      past = g.past;
      body_room = laid_length c.bodies (body_place d) (body_part n body) (length (body_part n body)) ∙ g.body_room;
      mask_room = laid_length c.masks (body_place d) (mask_part n body) (length (mask_part n body)) ∙ g.mask_room;
      bodies = laid_bytes c.bodies (body_place d) (length (body_part n body)) (body_part n body) g.bodies (part_bytes body 1 n b);
      masks = laid_bytes c.masks (body_place d) (length (mask_part n body)) (mask_part n body) g.masks (part_bytes body (1 + n) n b);
    }

-- a BAR at its slot
pub bars_good : (bars : List MemoryBar) → length bars ≡ bar_count → ((k : ℕ) → k < bar_count → GoodSlot k (get_or bars k no_bar)) → (i size : ℕ) (r : Request) → i < bar_count → Sized size → ((a : ℕ) → r ≡ request.Fixed a → a < 2 ^ 64) → (k : ℕ) → k < bar_count → GoodSlot k (get_or (set bars i (memory_bar (slot i) size r)) k no_bar)
bars_good bars room g i size r h z w k l =
    ⊎_elim (λ (q : k ≡ i). rw (q, get_or-set_same bars i (memory_bar (slot i) size r) no_bar (omega arith)) (used refl z w))
    (λ (q : k ≡ i → ⊥). rw (get_or-set_other bars i k (memory_bar (slot i) size r) no_bar q) (g k l))
    (same_or_not k i)

-- one more capability or effect
module _ (l : Limits) (w : Within l) (d : Capabilities) (g : GoodCapabilities d) where
  pub with_capability_good : (id n : ℕ) → d.count < l.capabilities → id < 256 → n ≤ body_most → GoodCapabilities (with_capability d (capability id n))
  with_capability_good id n h i s =
      let c = capability id n in
      record {
        sound = rw (add_good l d c h) at (add_capability_sound l w.capabilities d c g.sound);
        ids = each_set no_capability (λ x. x.id < 256) d.list d.count c i g.ids;
        short = each_set no_capability (λ x. x.length ≤ body_most) d.list d.count c s g.short;
        effect_ids = g.effect_ids;
        past = past_set no_capability d.list d.count c g.past;
        past_effects = g.past_effects;
      }

  pub with_effect_good : (mask : List ℕ) (id o n : ℕ) (a : EffectAccess) → (d.count ≡ 0 → ⊥) → d.effect_count < l.effects → effect_bad mask d o n ≡ false → id < 2 ^ 16 → GoodCapabilities (with_effect d (effect id (latest d) o n a))
  with_effect_good mask id o n a z h e i =
      let x = effect id (latest d) o n a in
      record {
        sound = rw (effect_good l mask d id o n a z h (λ f. both (fault_bad mask d o n f) e)) at (add_effect_sound mask d id o n a g.sound l w.effects);
        ids = g.ids;
        short = g.short;
        effect_ids = each_set no_effect (λ y. y.id < 2 ^ 16) d.effects d.effect_count x i g.effect_ids;
        past = g.past;
        past_effects = past_set no_effect d.effects d.effect_count x g.past_effects;
      }
