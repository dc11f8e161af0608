-- The steps of a function, as numbers: document 01's number for each refusal, 0 for none, and the values of each answer.
use Rattle.std.specs.Prelude.{ℕ, Bool, true, false, Option, Some, None, Result, Ok, Err}
use Rattle.capability.specs.Blank.{no_placed_effect}
use Rattle.capability.specs.declared.snapshot.Snapshot.{Snapshot}
use Rattle.refusal.specs.Number.{accepted}
use Rattle.config.specs.State.{no_body}
use Rattle.config.specs.Write.{relocated_at}
use Rattle.refusal.specs.Refusal.{number_of, answer_number}
use Rattle.config.specs.declared.state.FunctionState.{FunctionState}
use Rattle.config.specs.declared.read_step.ReadAnswer.{ReadAnswer}
use Rattle.config.specs.declared.read_step.ReadAnswer.TheVariants as read
use Rattle.config.specs.declared.write_step.WriteAnswer.{WriteAnswer}
use Rattle.config.specs.declared.write_step.WriteAnswer.TheVariants as write
use Rattle.config.specs.declared.write_step.WriteDone.{WriteDone}
use Rattle.config.specs.declared.reset_step.ResetDone.{ResetDone}
use Rattle.harness.specs.declared.function.ReadOut.{ReadOut}
use Rattle.harness.specs.declared.function.WriteOut.{WriteOut}
use Rattle.harness.specs.declared.function.ResetOut.{ResetOut}
use Rattle.address.specs.declared.slot.Slot.{Slot}
use Rattle.refusal.specs.declared.refusal.Refusal.{Refusal}

-- a read that no effect answers
abbrev pub read_plain : ℕ → ℕ → Snapshot → ReadOut
read_plain n v b =
    record { refusal = n; inside = false; value = v; capability_id = 0; region = no_placed_effect; offset = 0; region_offset = 0; body = b }

-- a value, or the numbers of an effect with the copy of the live body, or a refusal alone
abbrev pub read_numbers : Result ReadAnswer Refusal → ReadOut
read_numbers (Ok (read.Value v)) = read_plain accepted v no_body
read_numbers (Ok (read.Effect hit body)) =
    record { refusal = accepted; inside = true; value = 0; capability_id = hit.capability_id; region = hit.region; offset = hit.offset; region_offset = hit.region_offset; body = body }
read_numbers (Err r) = read_plain (number_of r) 0 no_body

-- what a write did: stored, started a probe, asks for a candidate, is inside an effect; 0 where it is refused
abbrev pub kind_stored : ℕ
kind_stored = 0

abbrev pub kind_probing : ℕ
kind_probing = 1

abbrev pub kind_candidate : ℕ
kind_candidate = 2

abbrev pub kind_effect : ℕ
kind_effect = 3

-- a write that no effect answers
abbrev pub write_plain : ℕ → ℕ → ℕ → ℕ → FunctionState → WriteOut
write_plain n kind slot address f =
    record { refusal = n; kind = kind; slot = slot; address = address; capability_id = 0; region = no_placed_effect; offset = 0; region_offset = 0; body = no_body; state = f }

-- a slot and an address where the write asks for them, or the numbers of an effect with the copy of the live body, or a refusal alone
abbrev pub write_numbers : FunctionState → Result WriteAnswer Refusal → WriteOut
write_numbers f (Ok write.Stored) = write_plain accepted kind_stored 0 0 f
write_numbers f (Ok (write.Probing slot)) = write_plain accepted kind_probing slot 0 f
write_numbers f (Ok (write.Candidate slot address)) = write_plain accepted kind_candidate slot address f
write_numbers f (Ok (write.Effect hit body)) =
    record { refusal = accepted; kind = kind_effect; slot = 0; address = 0; capability_id = hit.capability_id; region = hit.region; offset = hit.offset; region_offset = hit.region_offset; body = body; state = f }
write_numbers f (Err r) = write_plain (number_of r) kind_stored 0 0 f

-- what a write did, with the state after it
abbrev pub write_done_numbers : WriteDone → WriteOut
write_done_numbers d = write_numbers d.state d.answer

-- what the bus said of a candidate
abbrev pub relocation : ℕ → Bool → Option ℕ
relocation address true = Some address
relocation address false = None

-- the second step; "slot above 5" is no slot, and nothing changes
abbrev pub finished : FunctionState → Option ℕ → Result Slot Refusal → FunctionState
finished f r (Ok s) = relocated_at f s r
finished f r (Err e) = f

-- the answer of a reset, with the state after it
abbrev pub reset_numbers : ResetDone → ResetOut
reset_numbers d = record { refusal = answer_number d.answer; state = d.state }
