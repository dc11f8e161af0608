-- `put_config_bytes`: after i bytes the image has the values of those, and the mask their masks.
use mathlib.Core.Path.{◌≡◌}
use Rattle.config.specs.Field.{laid}
use Rattle.config.specs.PowerOn.{byte_values, byte_masks}
use Rattle.config.proofs.power_on.put_config_bytes.Given as goal

abbrev pub invariant-loop-i : goal.invariant-loop-i
invariant-loop-i l = (l.image ≡ laid l.initial.image (byte_values l.contents l.i)) × (l.mask ≡ laid l.initial.mask (byte_masks l.contents l.i))
