-- What is declared of a function, as numbers.
use Rattle.std.specs.Prelude.{ℕ, Bool, true, false, Option, None, Some, Result, Ok, Err}
use Rattle.refusal.specs.Number.{accepted, bad_config_byte}
use Rattle.config.specs.declared.function.Intx.{Intx}
use Rattle.config.specs.declared.function.Contents.{Contents}
use Rattle.config.specs.declared.config_byte.BadConfigByte.{BadConfigByte}
use Rattle.harness.specs.declared.contents.ContentsNumbers.{ContentsNumbers}
use Rattle.harness.specs.declared.contents.BytesOut.{BytesOut}

-- a pin and a line, or no INTx
abbrev pub intx_of : ℕ → ℕ → Bool → Option Intx
intx_of pin line true = Some (record { pin = pin; line = line })
intx_of pin line false = None

-- the contents that the numbers declare
unfoldable pub contents_of : ContentsNumbers → Contents
contents_of n =
    record { identity = n.identity; intx = intx_of n.pin n.line n.has_intx; bytes = n.bytes; byte_count = n.byte_count; bodies = n.bodies; masks = n.masks }

-- the first config byte that is refused, by its index
abbrev pub bytes_out : Result Unit BadConfigByte → BytesOut
bytes_out (Ok t) = record { refusal = accepted; index = 0 }
bytes_out (Err b) = record { refusal = bad_config_byte; index = b.0 }
