-- Writes, by where they go.
use Prim.Native.Nat.{ℕ, ◌%◌}
use mathlib.Core.Bool.{true, false}
use mathlib.Core.Path.{◌≡◌}
use Rattle.word.specs.Store.{stored}
use Rattle.address.specs.Layout.{bar_register_size}
use Rattle.bar.specs.State.{asks, probed}
use Rattle.bar.specs.declared.bar_state.BarWrite.TheVariants as bar_write
use Rattle.capability.specs.Touch.{touch_of}
use Rattle.config.specs.State.{bar_at, slot_at, in_bar, with_live, with_bar}
use Rattle.config.specs.Command.{revision_after, exhausted}
use Rattle.config.specs.Write.{write_done, store_of, bar_step, write_touched, write_good}
use Rattle.config.specs.declared.state.FunctionState.{FunctionState}
use Rattle.config.specs.declared.write_step.WriteAnswer.TheVariants.{Stored, Probing, Candidate}
use Rattle.std.proofs.Common.{Ok, Err}
use Rattle.refusal.specs.declared.refusal.Refusal.TheVariants.{RevisionExhausted}

-- a checked write to a BAR's register, and one elsewhere
pub write_register : (f : FunctionState) (o w v : ℕ) → in_bar f.bars o ≡ true → write_good f o w v ≡ bar_step f o w v
unfolding write_good
write_register f o w v e = rw e

pub write_elsewhere : (f : FunctionState) (o w v : ℕ) → in_bar f.bars o ≡ false → write_good f o w v ≡ write_touched f o w v (touch_of f.placed o w true)
unfolding write_good
write_elsewhere f o w v e = rw e

-- what the register's BAR asks for
pub step_probe : (f : FunctionState) (o w v : ℕ) → asks (bar_at f.bars (slot_at o)) (o % bar_register_size) w v ≡ bar_write.Probe → bar_step f o w v ≡ write_done (Ok (Probing (slot_at o))) (with_bar f (slot_at o) (probed (bar_at f.bars (slot_at o))))
unfolding bar_step
step_probe f o w v e = rw e

pub step_candidate : (f : FunctionState) (o w v a : ℕ) → asks (bar_at f.bars (slot_at o)) (o % bar_register_size) w v ≡ bar_write.Relocate a → bar_step f o w v ≡ write_done (Ok (Candidate (slot_at o) a)) f
unfolding bar_step
step_candidate f o w v a e = rw e

-- a store, and one that there is no revision left for
pub store_kept : (f : FunctionState) (o w v : ℕ) → exhausted f.live (stored f.mask f.live o w v) f.revision ≡ false → store_of f o w v ≡ write_done (Ok Stored) (with_live f (stored f.mask f.live o w v) (revision_after f.live (stored f.mask f.live o w v) f.revision))
unfolding store_of
store_kept f o w v e = rw e

pub store_exhausted : (f : FunctionState) (o w v : ℕ) → exhausted f.live (stored f.mask f.live o w v) f.revision ≡ true → store_of f o w v ≡ write_done (Err RevisionExhausted) f
unfolding store_of
store_exhausted f o w v e = rw e
