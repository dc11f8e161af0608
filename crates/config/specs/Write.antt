-- A write to config space (document 01, "Access and reset"), but for the acceptance of a candidate, which the bus decides.
use Rattle.std.specs.Prelude.{ℕ, ◌%◌, true, cond, Some, None, Ok, Err, Option, Result}
use Rattle.word.specs.Store.{stored}
use Rattle.address.specs.Layout.{bar_register_size}
use Rattle.address.specs.Kinds.{index_of}
use Rattle.address.specs.Check.{access_of}
use Rattle.address.specs.declared.slot.Slot.{Slot}
use Rattle.address.specs.declared.access.Access.{Access}
use Rattle.bar.specs.State.{asks, probed, relocated}
use Rattle.bar.specs.declared.bar_state.BarWrite.{BarWrite}
use Rattle.bar.specs.declared.bar_state.BarWrite.TheVariants as bar_write
use Rattle.capability.specs.Touch.{touch_of, Touch}
use Rattle.capability.specs.Snapshot.{snapshot_of}
use Rattle.config.specs.State.{bar_at, slot_at, in_bar, with_live, with_bar}
use Rattle.config.specs.Space.{space_of}
use Rattle.config.specs.Command.{revision_after, exhausted}
use Rattle.config.specs.declared.state.FunctionState.{FunctionState}
use Rattle.config.specs.declared.write_step.WriteAnswer.{WriteAnswer}
use Rattle.config.specs.declared.write_step.WriteAnswer.TheVariants.{Stored, Probing, Candidate, Effect}
use Rattle.config.specs.declared.write_step.WriteDone.{WriteDone}
use Rattle.refusal.specs.declared.refusal.Refusal.{Refusal}
use Rattle.refusal.specs.declared.refusal.Refusal.TheVariants.{RevisionExhausted}

abbrev pub write_done : Result WriteAnswer Refusal → FunctionState → WriteDone
write_done a f = record { answer = a; state = f }

-- "any other write stores value bits where the mask is 1"; at 20 nothing changes
unfoldable pub store_of : FunctionState → ℕ → ℕ → ℕ → WriteDone
store_of f o w v =
    cond (exhausted f.live (stored f.mask f.live o w v) f.revision) (write_done (Err RevisionExhausted) f)
    (write_done (Ok Stored)
    (with_live f (stored f.mask f.live o w v) (revision_after f.live (stored f.mask f.live o w v) f.revision)))

-- what a write to the register of slot i asks: a probe starts at once, a candidate is put to the bus and nothing changes yet
abbrev pub bar_asked : FunctionState → ℕ → BarWrite → WriteDone
bar_asked f i bar_write.Probe = write_done (Ok (Probing i)) (with_bar f i (probed (bar_at f.bars i)))
bar_asked f i (bar_write.Relocate a) = write_done (Ok (Candidate i a)) f

-- "A write merges its bytes into the committed dword"
unfoldable pub bar_step : FunctionState → ℕ → ℕ → ℕ → WriteDone
bar_step f o w v = bar_asked f (slot_at o) (asks (bar_at f.bars (slot_at o)) (o % bar_register_size) w v)

abbrev pub write_touched : FunctionState → ℕ → ℕ → ℕ → Touch → WriteDone
write_touched f o w v (Ok None) = store_of f o w v
write_touched f o w v (Ok (Some hit)) = write_done (Ok (Effect hit (snapshot_of f.placed f.live hit.region.capability))) f
write_touched f o w v (Err r) = write_done (Err r) f

-- a checked write
unfoldable pub write_good : FunctionState → ℕ → ℕ → ℕ → WriteDone
write_good f o w v =
    cond (in_bar f.bars o) (bar_step f o w v) (write_touched f o w v (touch_of f.placed o w true))

-- "Check 18 first."
abbrev pub write_checked : FunctionState → ℕ → Result Access Refusal → WriteDone
write_checked f v (Err r) = write_done (Err r) f
write_checked f v (Ok a) = write_good f a.offset.0 a.width v

unfoldable pub write_of : FunctionState → ℕ → ℕ → ℕ → WriteDone
write_of f o w v = write_checked f v (access_of (space_of f) o w)

-- the second step: "probing ends", and the candidate is taken or "the address stays"
abbrev pub relocated_in : FunctionState → ℕ → Option ℕ → FunctionState
relocated_in f i r = with_bar f i (relocated (bar_at f.bars i) r)

abbrev pub relocated_at : FunctionState → Slot → Option ℕ → FunctionState
relocated_at f s r = relocated_in f (index_of s) r
