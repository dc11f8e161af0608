-- What a write can answer and leave: the seven cases, each with what held there. Whatever is shown of these holds of every write.
use Rattle.std.specs.Prelude.{Result, Ok, Err}
use Prim.Native.Nat.{ℕ, ◌%◌}
use mathlib.Core.Bool.{true, false}
use mathlib.Core.List.{List}
use mathlib.Core.Logic.{⊎_elim}
use mathlib.Core.Path.{◌≡◌, refl}
use Rattle.std.proofs.Common.{Some, None, Ok, Err}
use Rattle.word.specs.Store.{stored}
use Rattle.word.proofs.Tests.{true_or_false}
use Rattle.address.specs.Layout.{bar_register_size}
use Rattle.address.specs.Check.{access_of}
use Rattle.address.specs.declared.access.Access.{Access}
use Rattle.address.proofs.Accesses.{Aligned, access_is, access_err}
use Rattle.bar.specs.State.{asks, probed}
use Rattle.bar.specs.declared.bar_state.BarWrite.{BarWrite}
use Rattle.bar.specs.declared.bar_state.BarWrite.TheVariants as bar_write
use Rattle.refusal.specs.declared.refusal.Refusal.TheVariants as refusal
use Rattle.capability.specs.Touch.{touch_of, Touch}
use Rattle.capability.specs.Snapshot.{snapshot_of}
use Rattle.capability.specs.declared.effect_access.EffectHit.{EffectHit}
use Rattle.capability.proofs.Touches.{touch_refusal}
use Rattle.config.specs.Space.{space_of}
use Rattle.config.specs.State.{bar_at, slot_at, in_bar, with_live, with_bar}
use Rattle.config.specs.Command.{revision_after, exhausted}
use Rattle.config.specs.Write.{write_done, store_of, bar_asked, bar_step, write_touched, write_good, write_checked, write_of}
use Rattle.config.specs.declared.state.FunctionState.{FunctionState}
use Rattle.config.specs.declared.write_step.WriteAnswer.TheVariants.{Stored, Probing, Candidate, Effect}
use Rattle.config.specs.declared.write_step.WriteDone.{WriteDone}
use Rattle.config.proofs.Writing.{write_register, write_elsewhere, store_kept, store_exhausted}
use Rattle.refusal.specs.declared.refusal.Refusal.TheVariants as refusal
use Rattle.refusal.specs.declared.refusal.Refusal.{Refusal}

-- the image that a store leaves
abbrev pub stored_in : FunctionState → ℕ → ℕ → ℕ → List ℕ
stored_in f o w v = stored f.mask f.live o w v

-- what has to be shown of a write: one clause a case
pub record Shown (P : WriteDone → Type 0) (f : FunctionState) (o w v : ℕ) : Type 0 where
  pub bad_access : access_of (space_of f) o w ≡ Err refusal.BadAccess → P (write_done (Err refusal.BadAccess) f)
  pub probing : Aligned (space_of f) o w → in_bar f.bars o ≡ true → P (write_done (Ok (Probing (slot_at o))) (with_bar f (slot_at o) (probed (bar_at f.bars (slot_at o)))))
  pub candidate : Aligned (space_of f) o w → in_bar f.bars o ≡ true → (a : ℕ) → asks (bar_at f.bars (slot_at o)) (o % bar_register_size) w v ≡ bar_write.Relocate a → P (write_done (Ok (Candidate (slot_at o) a)) f)
  pub effect : Aligned (space_of f) o w → in_bar f.bars o ≡ false → (hit : EffectHit) → touch_of f.placed o w true ≡ Ok (Some hit) → P (write_done (Ok (Effect hit (snapshot_of f.placed f.live hit.region.capability))) f)
  pub bad_effect : Aligned (space_of f) o w → in_bar f.bars o ≡ false → touch_of f.placed o w true ≡ Err refusal.BadTouch → P (write_done (Err refusal.BadTouch) f)
  pub exhausts : Aligned (space_of f) o w → in_bar f.bars o ≡ false → exhausted f.live (stored_in f o w v) f.revision ≡ true → P (write_done (Err refusal.RevisionExhausted) f)
  pub stores : Aligned (space_of f) o w → in_bar f.bars o ≡ false → touch_of f.placed o w true ≡ Ok None → exhausted f.live (stored_in f o w v) f.revision ≡ false → P (write_done (Ok Stored) (with_live f (stored_in f o w v) (revision_after f.live (stored_in f o w v) f.revision)))

module _ (P : WriteDone → Type 0) (f : FunctionState) (o w v : ℕ) (s : Shown P f o w v) where
  asked : Aligned (space_of f) o w → in_bar f.bars o ≡ true → (b : BarWrite) → asks (bar_at f.bars (slot_at o)) (o % bar_register_size) w v ≡ b → P (bar_asked f (slot_at o) b)
  asked a i bar_write.Probe e = s.probing a i
  asked a i (bar_write.Relocate x) e = s.candidate a i x e

  at_register : Aligned (space_of f) o w → in_bar f.bars o ≡ true → P (bar_step f o w v)
  unfolding bar_step
  at_register a i = asked a i (asks (bar_at f.bars (slot_at o)) (o % bar_register_size) w v) refl

  at_store : Aligned (space_of f) o w → in_bar f.bars o ≡ false → touch_of f.placed o w true ≡ Ok None → P (store_of f o w v)
  at_store a i u =
      ⊎_elim (λ (t : exhausted f.live (stored_in f o w v) f.revision ≡ true). rw (store_exhausted f o w v t) (s.exhausts a i t))
      (λ (t : exhausted f.live (stored_in f o w v) f.revision ≡ false). rw (store_kept f o w v t) (s.stores a i u t))
      (true_or_false (exhausted f.live (stored_in f o w v) f.revision))

  touched : Aligned (space_of f) o w → in_bar f.bars o ≡ false → (t : Touch) → touch_of f.placed o w true ≡ t → P (write_touched f o w v t)
  touched a i (Ok None) e = at_store a i e
  touched a i (Ok (Some hit)) e = s.effect a i hit e
  touched a i (Err r) e = let q = touch_refusal f.placed o w true r e in rw q (s.bad_effect a i (rw q at e))

  at_good : Aligned (space_of f) o w → P (write_good f o w v)
  at_good a =
      ⊎_elim (λ (t : in_bar f.bars o ≡ true). rw (write_register f o w v t) (at_register a t))
      (λ (t : in_bar f.bars o ≡ false). rw (write_elsewhere f o w v t) (touched a t (touch_of f.placed o w true) refl))
      (true_or_false (in_bar f.bars o))

  checked : (x : Result Access Refusal) → access_of (space_of f) o w ≡ x → P (write_checked f v x)
  checked (Err r) e = let q = access_err (space_of f) o w r e in rw q (s.bad_access (rw q at e))
  checked (Ok a) e = let r = access_is (space_of f) o w a.offset a.width e in rw (r.1, r.2) (at_good r.0)

  -- every write is one of the cases
  pub write_by_lem : P (write_of f o w v)
  unfolding write_of
  write_by_lem = checked (access_of (space_of f) o w) refl

-- and of the state alone: it is as it was, or a probe starts, or a store is made
pub state_by : (P : FunctionState → Type 0) (f : FunctionState) (o w v : ℕ) → P f → P (with_bar f (slot_at o) (probed (bar_at f.bars (slot_at o)))) → P (with_live f (stored_in f o w v) (revision_after f.live (stored_in f o w v) f.revision)) → P (write_of f o w v).state
state_by P f o w v same probe store =
    write_by_lem (λ d. P d.state) f o w v
    (record { bad_access = λ e. same; probing = λ a i. probe; candidate = λ a i x e. same; effect = λ a i hit e. same; bad_effect = λ a i e. same; exhausts = λ a i e. same; stores = λ a i u e. store })
