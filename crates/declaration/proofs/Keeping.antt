-- Every field that the checks let pass keeps what is so of the declaration so far.
use Prim.Native.Nat.{ℕ, ◌+◌, ◌%◌, ◌^◌, ◌<◌, ◌≤◌}
use mathlib.Core.Bool.{Bool, true, false, not, ◌&&◌, ◌||◌}
use mathlib.Core.List.{List}
use mathlib.Core.Path.{◌≡◌, refl, ap, subst, ◌∙◌}
use native.Mathlib.Omega.{arith}
use borrow.Author.Tests.{ltb-true, ltb-false, leb-true, leb-false, eqb-true, eqb-false, not-false}
use lib.Dec.{ltb, leb}
use lib.ListN.{length, drop, length-set, length-take, length-drop}
use Rattle.std.specs.Prelude.{Result, Ok}
use Rattle.refusal.specs.declared.refusal.Refusal.{Refusal}
use Rattle.word.specs.Number.{read_at}
use Rattle.word.proofs.Numbers.{read_lt}
use Rattle.word.proofs.Tests.{both, and_left, and_right}
use Rattle.address.specs.Limits.{Limits, capability_room}
use Rattle.bar.specs.Range.{four_gib}
use Rattle.bar.proofs.Sizes.{ok_size}
use Rattle.address.specs.Kinds.{slot}
use Rattle.address.specs.Layout.{bar_count}
use Rattle.bar.specs.Bar.{size_ok, memory_bar}
use Rattle.capability.specs.Size.{body_most}
use Rattle.capability.specs.declared.effect.EffectAccess.{EffectAccess}
use Rattle.bar.specs.declared.memory_bar.Request.{Request}
use Rattle.bar.specs.declared.memory_bar.Request.TheVariants as request
use Rattle.config.specs.declared.function.Function.{Function}
use Rattle.config.specs.declared.function.Identity.{Identity}
use Rattle.declaration.specs.Blank.{empty_function, no_mask}
use Rattle.declaration.specs.Exactly.{NoneFails, all_checks, said_at}
use Rattle.declaration.specs.Good.{Bytes, Within, GoodAperture, GoodIdentity, GoodFunction}
use Rattle.declaration.specs.Standing.{most_device, has_function, has_capability, device_used, slot_used}
use Rattle.declaration.specs.Row.{says, is_long_body, is_bad_form, is_out_of_order, is_above_limit, is_bad_device_or_slot, is_absent_vendor, is_bad_size, is_bad_aperture, is_bad_effect}
use Rattle.declaration.specs.Said.{byte_in, identity_in, said_of}
use Rattle.declaration.specs.Tag.{allows, capability_body}
use Rattle.declaration.specs.Take.{mask_part, with_said}
use Rattle.declaration.specs.declared.finished.Finished.{Finished}
use Rattle.declaration.specs.declared.said.Said.{Said}
use Rattle.declaration.specs.declared.said.Said.TheVariants as said
use Rattle.declaration.specs.declared.so_far.SoFar.{SoFar}
use Rattle.declaration.specs.declared.tag.Tag.TheVariants as tags
use Rattle.declaration.proofs.Devices.{used_same, used_here}
use Rattle.declaration.proofs.Functions.{empty_good, empty_latest, intx_good, byte_good, bodies_good, bars_good, with_capability_good, with_effect_good}
use Rattle.declaration.proofs.Masked.{Latest, capability_read_only, capability_latest, effect_read_only}
use Rattle.declaration.proofs.Saids.{by_form}
use Rattle.declaration.proofs.Steps.{framing_passes, short_at}
use Rattle.declaration.proofs.SoFars.{Sane, Apart, Kept, new_apart, same_apart}

-- what the checks of an accepted field say
pub record Passes (l : Limits) (s : SoFar) (f : Result Said Refusal) : Type 0 where
  pub short : says is_long_body f ≡ false
  pub formed : is_bad_form f ≡ false
  pub ordered : says (is_out_of_order s) f ≡ false
  pub few : says (is_above_limit l s) f ≡ false
  pub apart : says (is_bad_device_or_slot s) f ≡ false
  pub present : says is_absent_vendor f ≡ false
  pub sized : says is_bad_size f ≡ false
  pub lies : says is_bad_aperture f ≡ false
  pub fits : says (is_bad_effect s) f ≡ false

pub field_passes : (l : Limits) (file : List ℕ) (at : ℕ) (s : SoFar) → NoneFails (all_checks l file at s) → Passes l s (said_at file at)
field_passes l file at s none =
    record {
      short = short_at file at (framing_passes l file at s none);
      formed = none 4 (omega arith);
      ordered = none 5 (omega arith);
      few = none 6 (omega arith);
      apart = none 7 (omega arith);
      present = none 8 (omega arith);
      sized = none 9 (omega arith);
      lies = none 10 (omega arith);
      fits = none 11 (omega arith);
    }

or_left : (a b : Bool) → a || b ≡ false → a ≡ false
or_left true b e = e
or_left false b e = refl

or_right : (a b : Bool) → a || b ≡ false → b ≡ false
or_right true b e = absurd (both refl e)
or_right false b e = e

-- a body of an allowed length is an id, and as many masks as bytes
whole_body : (body : List ℕ) → allows tags.Capability (length body) ≡ true → 1 + capability_body (length body) + capability_body (length body) ≤ length body
whole_body body allowed = let odd : length body % 2 ≡ 1 = eqb-true (length body % 2) 1 allowed in omega arith

its_device : (d : ℕ) (i : Identity) → (empty_function d i).device ≡ d
unfolding empty_function
its_device d i = refl

module _ (l : Limits) (w : Within l) (s : SoFar) (f : Finished) (a : Sane s) (b : Apart s f) (body : List ℕ) (bytes : Bytes body) where
  -- what is shown of each form
  abbrev Keeps : Result Said Refusal → Type 0
  Keeps x = Passes l s x → Kept s f (with_said s x body)

  aperture_keeps : (from to : ℕ) → Keeps (Ok (said.Aperture from to))
  aperture_keeps from to p =
      let q = not-false (ltb from to && leb to four_gib) p.lies in
      let t = with_said s (Ok (said.Aperture from to)) body in
      record {
        sane = record { aperture = λ x e. let z : record { start = from; end = to } ≡ x = cc in subst GoodAperture z (record { filled = ltb-true from to (and_left (ltb from to) (leb to four_gib) q); most = leb-true to four_gib (and_right (ltb from to) (leb to four_gib) q) }); room = a.room; few = a.few; function = a.function; mine = λ h. used_same s t s.function.device refl refl (a.mine h); masked = a.masked };
        apart = same_apart s t f refl refl refl b;
      }

  identity_good : Passes l s (Ok (said.Function (byte_in body 0) (identity_in body))) → GoodIdentity (identity_in body)
  identity_good p =
      record {
        present = eqb-false (identity_in body).vendor 0xffff p.present;
        vendor = read_lt body 1 2 bytes;
        device = read_lt body 3 2 bytes;
        subsystem_vendor = read_lt body 5 2 bytes;
        subsystem = read_lt body 7 2 bytes;
        revision = bytes 9;
        base_class = bytes 10;
        subclass = bytes 11;
        programming_interface = bytes 12;
      }

  -- the fields of the latest function change nothing else
  latest_kept : (x : Function) (mask : List ℕ) → GoodFunction x → Latest mask x.contents.masks x.capabilities → x.device ≡ s.function.device → Kept s f (record { aperture = s.aperture; devices = s.devices; count = s.count; function = x; mask = mask })
  latest_kept x mask g m e =
      let t : SoFar = record { aperture = s.aperture; devices = s.devices; count = s.count; function = x; mask = mask } in
      record {
        sane = record { aperture = a.aperture; room = a.room; few = a.few; function = g; mine = λ h. ap (device_used t) e ∙ used_same s t s.function.device refl refl (a.mine h); masked = m };
        apart = same_apart s t f refl refl e b;
      }

  intx_keeps : (pin line : ℕ) → 1 ≤ pin → pin ≤ 4 → line < 256 → Keeps (Ok (said.Intx pin line))
  intx_keeps pin line low high h p =
      let g = a.function in
      latest_kept _ s.mask (record { device = g.device; contents = intx_good s.function.contents pin line g.contents low high h; bar_room = g.bar_room; bars = g.bars; capabilities = g.capabilities; read_only = g.read_only }) a.masked refl

  bar_keeps : (k size : ℕ) (r : Request) → ((at : ℕ) → r ≡ request.Fixed at → at < 2 ^ 64) → Keeps (Ok (said.Bar k size r))
  bar_keeps k size r h p =
      let g = a.function in
      let q : k < bar_count = leb-false bar_count k (or_left (leb bar_count k) (slot_used s.function k) p.apart) in
      latest_kept _ s.mask (record { device = g.device; contents = g.contents; bar_room = length-set s.function.bars k (memory_bar (slot k) size r) ∙ g.bar_room; bars = bars_good s.function.bars g.bar_room g.bars k size r q (ok_size size (not-false (size_ok size) p.sized)) h; capabilities = g.capabilities; read_only = g.read_only }) a.masked refl

  byte_keeps : (o value mask : ℕ) → o < 256 → value < 256 → mask < 256 → Keeps (Ok (said.ConfigByte o value mask))
  byte_keeps o value mask h v m p =
      let g = a.function in
      let n = leb-false l.config_bytes s.function.contents.byte_count p.few in
      latest_kept _ s.mask (record { device = g.device; contents = byte_good s.function.contents o value mask g.contents (omega (arith, w.config_bytes)) h v m; bar_room = g.bar_room; bars = g.bars; capabilities = g.capabilities; read_only = g.read_only }) a.masked refl

  capability_keeps : (id n : ℕ) → id < 256 → 1 + n + n ≤ length body → Keeps (Ok (said.Capability id n))
  capability_keeps id n h long p =
      let g = a.function in
      let d = s.function.capabilities in
      let c = leb-false l.capabilities d.count p.few in
      let sound = g.capabilities.sound in
      let free : d.count < capability_room = omega (arith, w.capabilities) in
      let mask-long : length (mask_part n body) ≡ n = length-take n (drop (1 + n) body) ∙ rw (length-drop (1 + n) body) (omega arith) in
      latest_kept _ _ (record { device = g.device; contents = bodies_good s.function.contents s.function.capabilities n body g.contents bytes; bar_room = g.bar_room; bars = g.bars; capabilities = with_capability_good l w s.function.capabilities g.capabilities id n c h (ltb-false body_most n p.short); read_only = capability_read_only d sound free id n s.function.contents.masks (mask_part n body) g.read_only })
      (capability_latest d sound free id n s.function.contents.masks (mask_part n body) g.contents.mask_room mask-long (ltb-false body_most n p.short)) refl

  effect_keeps : (id o n : ℕ) (x : EffectAccess) → id < 2 ^ 16 → Keeps (Ok (said.Effect id o n x))
  effect_keeps id o n x h p =
      let g = a.function in
      let d = s.function.capabilities in
      let c = leb-false l.effects d.effect_count p.few in
      let z = ltb-true 0 s.function.capabilities.count (not-false (has_capability s) (or_right (not (has_function s)) (not (has_capability s)) p.ordered)) in
      latest_kept _ s.mask (record { device = g.device; contents = g.contents; bar_room = g.bar_room; bars = g.bars; capabilities = with_effect_good l w s.function.capabilities g.capabilities s.mask id o n x (λ q. omega arith) c p.fits h; read_only = effect_read_only d g.capabilities.sound (omega (arith, w.effects)) s.mask s.function.contents.masks id o n x g.contents.mask_room a.masked z p.fits g.read_only }) a.masked refl

  -- a new function: those so far are finished, and its device is none of theirs
  function_keeps : Keeps (Ok (said.Function (byte_in body 0) (identity_in body)))
  function_keeps p =
      let d = byte_in body 0 in
      let i = identity_in body in
      let t = with_said s (Ok (said.Function d i)) body in
      let unused = or_right (ltb most_device d) (device_used s d) p.apart in
      let most = ltb-false most_device d (or_left (ltb most_device d) (device_used s d) p.apart) in
      let n = leb-false l.functions s.count p.few in
      record {
        sane = record { aperture = a.aperture; room = length-set s.devices s.count d ∙ a.room; few = omega (arith, w.functions); function = empty_good d i most (identity_good p); mine = λ h. ap (device_used t) (its_device d i) ∙ used_here s t d refl refl (omega (arith, a.room, w.functions)); masked = empty_latest no_mask d i };
        apart = new_apart s f a b t d refl refl (its_device d i) unused;
      }

  auto_wide : (at : ℕ) → request.Auto ≡ request.Fixed at → at < 2 ^ 64
  auto_wide at e = let z : ◌≡◌ {A = ℕ} 0 1 = cc in absurd (omega arith)

  fixed_wide : (at : ℕ) → request.Fixed (read_at body 10 8) ≡ request.Fixed at → at < 2 ^ 64
  fixed_wide at e = let z : read_at body 10 8 ≡ at = cc in rw z at (read_lt body 10 8 bytes)

  -- so every field does
  pub field_keeps : (tag : ℕ) → Keeps (said_of tag body)
  field_keeps tag =
      by_form tag body Keeps
      (record {
        aperture = aperture_keeps (read_at body 0 8) (read_at body 8 8);
        function = function_keeps;
        intx = λ low high. intx_keeps (byte_in body 0) (byte_in body 1) low high (bytes 1);
        automatic = bar_keeps (byte_in body 0) (read_at body 2 8) request.Auto auto_wide;
        fixed = bar_keeps (byte_in body 0) (read_at body 2 8) (request.Fixed (read_at body 10 8)) fixed_wide;
        config_byte = byte_keeps (byte_in body 0) (byte_in body 1) (byte_in body 2) (bytes 0) (bytes 1) (bytes 2);
        capability = λ e allowed. capability_keeps (byte_in body 0) (capability_body (length body)) (bytes 0) (whole_body body allowed);
        effect = λ x. effect_keeps (read_at body 0 2) (byte_in body 2) (byte_in body 3) x (read_lt body 0 2 bytes);
        bad = λ p. absurd (both refl p.formed);
      })
