-- `harness_config_bytes` tells what the check answers.
use mathlib.Core.Path.{◌∙◌}
use Rattle.harness.proofs.contents.harness_config_bytes.Goals as goal

pub returns : goal.returns
returns c = c.bytes_out.ensures ∙ rw (c.check_config_bytes.ensures, c.contents_of.ensures)
