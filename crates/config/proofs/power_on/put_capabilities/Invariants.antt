-- `put_capabilities`: after i capabilities the image has the fields of those, and the mask their masks.
use mathlib.Core.Path.{◌≡◌}
use Rattle.config.specs.Field.{laid}
use Rattle.config.specs.PowerOn.{capability_fields, capability_masks}
use Rattle.config.proofs.power_on.put_capabilities.Given as goal

abbrev pub invariant-loop-i : goal.invariant-loop-i
invariant-loop-i l = (l.image ≡ laid l.initial.image (capability_fields l.placed l.bodies l.i)) × (l.mask ≡ laid l.initial.mask (capability_masks l.placed l.masks l.i))
