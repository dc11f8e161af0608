-- `check_config_bytes` passes every config byte that may stand where it is.
use mathlib.Core.Bool.{false}
use mathlib.Core.Path.{◌≡◌}
use Rattle.word.specs.Search.{any_below}
use Rattle.config.specs.ConfigByte.{byte_bad}
use Rattle.config.proofs.config_byte.check_config_bytes.Given as goal

abbrev pub invariant-loop-i : goal.invariant-loop-i
invariant-loop-i l = any_below (byte_bad l.space l.contents l.placed) l.i ≡ false
