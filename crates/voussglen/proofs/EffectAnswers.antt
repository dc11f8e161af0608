-- A result whose kind is an effect's tells that effect as the bus answers it.
use Prim.Native.Nat.{ℕ}
use mathlib.Core.Bool.{true, false}
use mathlib.Core.Path.{◌≡◌, refl}
use native.Mathlib.Omega.{arith}
use Rattle.capability.specs.declared.snapshot.Snapshot.{Snapshot}
use Rattle.config.specs.declared.read_step.ReadAnswer.{ReadAnswer}
use Rattle.config.specs.declared.read_step.ReadAnswer.TheVariants as read
use Rattle.bus.specs.Access.{bus_read_of, bus_write_of}
use Rattle.bus.specs.declared.state.Bus.{Bus}
use Rattle.bus.specs.declared.write_access.BusWriteAnswer.{BusWriteAnswer}
use Rattle.bus.specs.declared.write_access.BusWriteAnswer.TheVariants as write
use Rattle.bus.specs.declared.write_access.WriteRefusal.{WriteRefusal}
use Rattle.refusal.specs.declared.refusal.Refusal.{Refusal}
use Rattle.std.proofs.Common.{Result, Ok, Err}
use Rattle.bus.proofs.EffectAnswers.{bus_read_answer, bus_write_answer}
use Rattle.voussglen.specs.Result.{kind_effect, read_result, write_result}
use Rattle.voussglen.specs.Step.{read_step, write_step}
use Rattle.voussglen.specs.Inside.{Inside}
use Rattle.voussglen.specs.declared.results.ReadAsk.{ReadAsk}
use Rattle.voussglen.specs.declared.results.WriteAsk.{WriteAsk}

module _ (b : Bus) (device o w : ℕ) where
  read_inside : (a : Result ReadAnswer Refusal) → bus_read_of b device o w ≡ a → (read_result a).kind ≡ kind_effect → Inside b device o w false (read_result a).effect
  read_inside (Ok (read.Value v)) e k = absurd (omega (arith, k))
  read_inside (Ok (read.Effect hit body)) e k = bus_read_answer b device o w hit body e
  read_inside (Err r) e k = absurd (omega (arith, k))

  write_inside : (v : ℕ) (a : Result BusWriteAnswer WriteRefusal) → (bus_write_of b device o w v).answer ≡ a → (write_result a).kind ≡ kind_effect → Inside b device o w true (write_result a).effect
  write_inside v (Ok write.Stored) e k = absurd (omega (arith, k))
  write_inside v (Ok write.Dropped) e k = absurd (omega (arith, k))
  write_inside v (Ok (write.Probing slot)) e k = absurd (omega (arith, k))
  write_inside v (Ok (write.Moved slot address)) e k = absurd (omega (arith, k))
  write_inside v (Ok (write.Kept slot address)) e k = absurd (omega (arith, k))
  write_inside v (Ok (write.Effect hit body)) e k = bus_write_answer b device o w v hit body e
  write_inside v (Err r) e k = absurd (omega (arith, k))

pub vg_read_inside : (b : Bus) (held : Snapshot) (a : ReadAsk) → (read_step b held a).result.kind ≡ kind_effect → Inside b a.device a.offset a.width false (read_step b held a).result.effect
vg_read_inside b held a = read_inside b a.device a.offset a.width (bus_read_of b a.device a.offset a.width) refl

pub vg_write_inside : (b : Bus) (held : Snapshot) (a : WriteAsk) → (write_step b held a).result.kind ≡ kind_effect → Inside b a.device a.offset a.width true (write_step b held a).result.effect
vg_write_inside b held a =
    write_inside b a.device a.offset a.width a.value (bus_write_of b a.device a.offset a.width a.value).answer refl
