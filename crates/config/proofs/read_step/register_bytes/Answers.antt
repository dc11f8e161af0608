-- `register_bytes` reads the four bytes of what the register shows.
use lib.ListN.{replicate}
use Rattle.address.specs.Layout.{bar_register_size}
use Rattle.config.specs.Read.{register_bytes}
use Rattle.config.proofs.Reading.{put_all}
use Rattle.config.proofs.read_step.register_bytes.Goals as goal

pub returns : goal.returns
unfolding register_bytes
returns c = cc (put_all (replicate bar_register_size 0) c.raw_dword.result)
