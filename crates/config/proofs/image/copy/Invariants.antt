-- `copy`: after i bytes the image has a part of i bytes.
use mathlib.Core.Path.{◌≡◌}
use mathlib.Core.List.{[], ◌∷◌}
use Rattle.config.specs.Field.{part, laid}
use Rattle.config.proofs.image.copy.Given as goal

abbrev pub invariant-loop-i : goal.invariant-loop-i
invariant-loop-i l = l.image ≡ laid l.initial.image (part l.offset l.i l.base l.bytes ∷ [])
