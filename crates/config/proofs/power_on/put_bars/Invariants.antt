-- `put_bars`: after some slots the image has the registers of those.
use mathlib.Core.Path.{◌≡◌}
use Rattle.config.specs.Field.{laid}
use Rattle.config.specs.PowerOn.{bar_fields}
use Rattle.config.proofs.power_on.put_bars.Given as goal

abbrev pub invariant-loop-slot : goal.invariant-loop-slot
invariant-loop-slot l = l.image ≡ laid l.initial.image (bar_fields l.bars l.slot)
