-- An accepted file of bytes declares what is good: it is so before the first field, and every accepted field keeps it so.
use Prim.Native.Nat.{ℕ, ◌+◌, ◌<◌, ◌≤◌}
use mathlib.Core.List.{List}
use mathlib.Core.Logic.{⊎_elim}
use mathlib.Core.Path.{◌≡◌, ap}
use native.Mathlib.Omega.{arith}
use lib.ListN.{length}
use Rattle.std.specs.Prelude.{Ok}
use Rattle.refusal.specs.declared.refusal.Refusal.{Refusal}
use Rattle.address.specs.Layout.{config_space_size}
use Rattle.address.specs.Limits.{Limits, limits}
use Rattle.bar.specs.declared.range.Aperture.{Aperture}
use Rattle.capability.specs.Layout.{answer_of, placed_of, layout_of, placed_or_nothing}
use Rattle.capability.proofs.Laids.{placed_laid}
use Rattle.capability.proofs.Rulings.{ruling_is}
use Rattle.config.specs.Admitted.{Admitted}
use Rattle.config.specs.ConfigByte.{byte_count, bad, byte_check_of}
use Rattle.std.proofs.Common.{Ok}
use Rattle.config.specs.declared.function.Function.{Function}
use Rattle.declaration.specs.Answer.{declaration_with, declared_by}
use Rattle.declaration.specs.Exactly.{bad_byte_at, Reached, start, field, Read, Faultless, FaultyAt, Passed}
use Rattle.declaration.specs.Finished.{function_at}
use Rattle.declaration.specs.Frame.{field_header, tag_at, length_at, body_at}
use Rattle.declaration.specs.Good.{Bytes, Within, GoodFunctions, Good}
use Rattle.declaration.specs.declared.answer.Declaration.{Declaration}
use Rattle.declaration.specs.declared.finished.Finished.{Finished}
use Rattle.declaration.specs.declared.so_far.SoFar.{SoFar}
use Rattle.word.proofs.Searches.{first_none}
use Rattle.word.proofs.Tests.{below_or_not}
use Rattle.declaration.proofs.Answered.{is_passed}
use Rattle.declaration.proofs.Everywhere.{part_bytes}
use Rattle.declaration.proofs.Keeping.{field_passes, field_keeps}
use Rattle.declaration.proofs.SoFars.{Sane, Apart, nothing_sane, nothing_apart, all_good}

-- what is shown of each state that a file's reading reaches
pub record Held (s : SoFar) (f : Finished) : Type 0 where
  pub sane : Sane s
  pub apart : Apart s f

module _ (l : Limits) (w : Within l) (file : List ℕ) (bytes : Bytes file) where
  pub reached_held : (at : ℕ) (s : SoFar) (f : Finished) → Reached l file at s f → Held s f
  reached_held at s f start = record { sane = nothing_sane; apart = nothing_apart }
  reached_held at s f (field p t g r h none) =
      let q = reached_held p t g r in
      let k = field_keeps l w t g q.sane q.apart (body_at file p) (part_bytes file (p + field_header) (length_at file p) bytes) (tag_at file p) (field_passes l file p t none) in
      record { sane = k.sane; apart = k.apart }

  pub read_functions : (a : Aperture) (f : Finished) → Read l file a f → GoodFunctions f.functions f.count
  read_functions a f r =
      let q = reached_held (length file) r.now r.finished r.reached in
      rw r.functions at (all_good r.now r.finished q.sane q.apart)

  -- "for each device ascending": where a function is refused, those of lower devices have no fault
  pub lower_faultless : (n : Refusal) (device index : ℕ) (h : FaultyAt l file n device index) (k : ℕ) → k < h.functions.count → (function_at h.functions k).device < device → Faultless (function_at h.functions k)
  lower_faultless n device index h k c d =
      let g = read_functions h.its h.functions h.read in
      ⊎_elim (λ (b : k < h.position). h.before k b)
      (λ (b : h.position ≤ k).
      ⊎_elim (λ (q : h.position < k). absurd (omega (arith, g.ascends h.position k q c, h.there)))
      (λ (q : k ≤ h.position). let z : k ≡ h.position = omega arith in absurd (omega (arith, h.there, ap (λ (i : ℕ). (function_at h.functions i).device) z)))
      (below_or_not h.position k))
      (below_or_not k h.position)

  read_good_lem : (a : Aperture) (f : Finished) → Passed l file a f → Good (declaration_with a f)
  read_good_lem a f p =
      let r = p.read in
      let q = reached_held (length file) r.now r.finished r.reached in
      let g = read_functions a f r in
      record { aperture = q.sane.aperture a r.aperture; functions = g; faultless = λ k h. p.faultless k (omega (arith, g.few)) }

  -- the theorem
  pub accepted_good : (d : Declaration) → declared_by l file ≡ Ok d → Good d
  accepted_good d e = let c = is_passed l file d e in rw c.declares (read_good_lem c.aperture c.functions c.passes)

-- document 01's limits have room
pub limits_within : Within limits
limits_within = record { functions = omega arith; capabilities = omega arith; effects = omega arith; config_bytes = omega arith }

-- a function without fault has what the laws of its power-on image ask for
module _ (f : Function) (h : Faultless f) where
  pub faultless_placed : answer_of config_space_size f.capabilities ≡ Ok tt
  faultless_placed = ruling_is config_space_size f.capabilities (Ok tt) h.placed

  pub faultless_layout : placed_or_nothing (layout_of config_space_size f.capabilities) ≡ placed_of f.capabilities
  unfolding layout_of
  faultless_layout = rw faultless_placed

  pub faultless_checked : byte_check_of config_space_size f.contents (placed_of f.capabilities) ≡ Ok tt
  unfolding byte_check_of
  faultless_checked = first_none bad (Ok tt) (bad_byte_at f) (byte_count f.contents) h.bytes

  pub faultless_admitted : Admitted config_space_size f.contents (placed_of f.capabilities)
  faultless_admitted = record { wide = omega arith; laid = placed_laid f.capabilities config_space_size faultless_placed; checked = faultless_checked }
