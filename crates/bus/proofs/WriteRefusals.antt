-- What a function refuses a write with is what the bus refuses it with.
use Rattle.std.specs.Prelude.{ℕ, ◌≡◌, Result, Ok, Err}
use mathlib.Core.Path.{refl}
use native.Mathlib.Omega.{arith}
use Rattle.refusal.specs.declared.refusal.Refusal.{Refusal}
use Rattle.refusal.specs.declared.refusal.Refusal.TheVariants as refusal
use Rattle.capability.specs.Snapshot.{snapshot_of}
use Rattle.config.specs.State.{slot_at}
use Rattle.config.specs.Write.{write_of}
use Rattle.config.specs.declared.state.FunctionState.{FunctionState}
use Rattle.config.specs.declared.write_step.WriteAnswer.{WriteAnswer}
use Rattle.config.specs.declared.write_step.WriteAnswer.TheVariants.{Stored, Probing, Candidate, Effect}
use Rattle.config.proofs.WriteCases.{write_by_lem}
use Rattle.bus.specs.Access.{refusal_of, refused_at}

abbrev pub Kept : ℕ → Result WriteAnswer Refusal → Type 0
Kept device a = (r : Refusal) → a ≡ Err r → refusal_of (refused_at device r) ≡ r

by_ok : (device : ℕ) (x : WriteAnswer) → Kept device (Ok x)
by_ok device x r e = let z : ◌≡◌ {A = ℕ} 0 1 = cc in absurd (omega arith)

by_err : (device : ℕ) (q : Refusal) → refusal_of (refused_at device q) ≡ q → Kept device (Err q)
by_err device q h r e = let s : q ≡ r = cc in rw (← s) h

pub refusal_kept : (device : ℕ) (f : FunctionState) (o w v : ℕ) → Kept device (write_of f o w v).answer
refusal_kept device f o w v =
    write_by_lem (λ d. Kept device d.answer) f o w v
    (record { bad_access = λ e. by_err device refusal.BadAccess refl; probing = λ a i. by_ok device (Probing (slot_at o)); candidate = λ a i x e. by_ok device (Candidate (slot_at o) x); effect = λ a i hit e. by_ok device (Effect hit (snapshot_of f.placed f.live hit.region.capability)); bad_effect = λ a i e. by_err device refusal.BadTouch refl; exhausts = λ a i e. by_err device refusal.RevisionExhausted refl; stores = λ a i u e. by_ok device Stored })
