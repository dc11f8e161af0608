-- What each function of the boundary answers and leaves, by the bus's own definitions; `vg_enumerate` is `enumerate_of` itself.
use Rattle.std.specs.Prelude.{ℕ, List}
use Rattle.address.specs.Limits.{limits}
use Rattle.capability.specs.declared.snapshot.Snapshot.{Snapshot}
use Rattle.bus.specs.Access.{bus_read_of, bus_write_of}
use Rattle.bus.specs.Lookup.{lookup_of}
use Rattle.bus.specs.Reset.{bus_reset_of}
use Rattle.bus.specs.Start.{bus_given, start_of}
use Rattle.bus.specs.declared.state.Bus.{Bus}
use Rattle.voussglen.specs.Result.{read_result, read_body, write_result, write_body, lookup_result, reset_result, start_result}
use Rattle.voussglen.specs.declared.results.ReadAsk.{ReadAsk}
use Rattle.voussglen.specs.declared.results.WriteAsk.{WriteAsk}
use Rattle.voussglen.specs.declared.results.LookupAsk.{LookupAsk}
use Rattle.voussglen.specs.declared.results.LookupResult.{LookupResult}
use Rattle.voussglen.specs.declared.reads.ReadStep.{ReadStep}
use Rattle.voussglen.specs.declared.writes.WriteStep.{WriteStep}
use Rattle.voussglen.specs.declared.resets.ResetStep.{ResetStep}
use Rattle.voussglen.specs.declared.starts.StartStep.{StartStep}

abbrev pub read_step : Bus → Snapshot → ReadAsk → ReadStep
read_step b held a =
    record {
      result = read_result (bus_read_of b a.device a.offset a.width);
      body = read_body held (bus_read_of b a.device a.offset a.width);
    }

abbrev pub write_step : Bus → Snapshot → WriteAsk → WriteStep
write_step b held a =
    record {
      result = write_result (bus_write_of b a.device a.offset a.width a.value).answer;
      body = write_body held (bus_write_of b a.device a.offset a.width a.value).answer;
      bus = (bus_write_of b a.device a.offset a.width a.value).bus;
    }

abbrev pub lookup_step : Bus → LookupAsk → LookupResult
lookup_step b a = lookup_result (lookup_of b a.address a.width)

abbrev pub reset_step : Bus → ResetStep
reset_step b = record { result = reset_result (bus_reset_of b).answer; bus = (bus_reset_of b).bus }

abbrev pub start_step : List ℕ → StartStep
start_step file = record { result = start_result (start_of limits file); bus = bus_given (start_of limits file) }
