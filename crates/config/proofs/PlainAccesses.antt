-- Reads and writes that meet no BAR and no effect; a write under masks of zero changes nothing.
use Prim.Native.Nat.{ℕ, ◌+◌, ◌-◌, ◌<◌, ◌≤◌}
use mathlib.Core.Bool.{true, false}
use mathlib.Core.Logic.{inl, inr, ⊎_elim}
use mathlib.Core.Path.{◌≡◌, refl, ◌∙◌}
use native.Mathlib.Omega.{arith}
use lib.ListN.{length, get_or}
use lib.Seq.{ext_get_or}
use Rattle.std.proofs.Common.{None, Ok}
use Rattle.word.specs.Number.{read_at}
use Rattle.word.specs.Store.{stored}
use Rattle.word.proofs.Stores.{stored_length, stored_out, stored_unmasked}
use Rattle.word.proofs.Tests.{below_or_not}
use Rattle.address.proofs.Accesses.{Aligned, access_good}
use Rattle.capability.specs.Touch.{touch_of}
use Rattle.config.specs.Read.{read_of}
use Rattle.config.specs.Space.{space_of}
use Rattle.config.specs.State.{in_bar}
use Rattle.config.specs.Write.{write_done, store_of, write_of}
use Rattle.config.specs.declared.read_step.ReadAnswer.TheVariants.{Value}
use Rattle.config.specs.declared.state.FunctionState.{FunctionState}
use Rattle.config.specs.declared.write_step.WriteAnswer.TheVariants.{Stored}
use Rattle.config.proofs.Commands.{same_revision, same_not_exhausted}
use Rattle.config.proofs.Reading.{read_elsewhere}
use Rattle.config.proofs.Writing.{write_elsewhere, store_kept}

module _ (f : FunctionState) (o w : ℕ) (a : Aligned (space_of f) o w) (e : in_bar f.bars o ≡ false) where
  pub plain_read : touch_of f.placed o w false ≡ Ok None → read_of f o w ≡ Ok (Value (read_at f.live o w))
  unfolding read_of
  plain_read t = rw (access_good (space_of f) o w a) (read_elsewhere f o w e ∙ rw t)

  module _ (v : ℕ) (t : touch_of f.placed o w true ≡ Ok None) where
    pub plain_write : write_of f o w v ≡ store_of f o w v
    unfolding write_of
    plain_write = rw (access_good (space_of f) o w a) (write_elsewhere f o w v e ∙ rw t)

    module _ (bytes : (j : ℕ) → get_or f.live j 0 < 256) (masks : (k : ℕ) → k < w → get_or f.mask (o + k) 0 ≡ 0) where
      stored_nothing : stored f.mask f.live o w v ≡ f.live
      stored_nothing =
          ext_get_or 0 (stored f.mask f.live o w v) f.live (stored_length f.mask f.live o w v) (λ j m.
          let l : j < length f.live = rw (stored_length f.mask f.live o w v) at m in
          ⊎_elim (λ (p : j < o). stored_out f.mask f.live o w v j l (inl p)) (λ (p : o ≤ j).
          ⊎_elim (λ (q : j < o + w).
          let z : o + (j - o) ≡ j = omega arith in
          stored_unmasked f.mask f.live o w v j l (bytes j) (rw z at (masks (j - o) (omega arith))))
          (λ (q : o + w ≤ j). stored_out f.mask f.live o w v j l (inr q)) (below_or_not j (o + w))) (below_or_not j o))

      pub unmasked_write : write_of f o w v ≡ write_done (Ok Stored) f
      unmasked_write =
          let q = stored_nothing in
          plain_write ∙ store_kept f o w v (rw q (same_not_exhausted f.live f.live f.revision refl)) ∙ rw (q, same_revision f.live f.live f.revision refl)
