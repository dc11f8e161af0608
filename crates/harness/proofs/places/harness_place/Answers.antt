-- `harness_place` places the BARs that the numbers declare.
use mathlib.Core.Path.{◌≡◌, ◌∙◌}
use Rattle.placement.specs.Answer.{placement_of}
use Rattle.harness.specs.Places.{declared_bars, place_of}
use Rattle.harness.proofs.places.harness_place.Goals as goal

pub returns : goal.returns
unfolding place_of
returns c =
    let n = c.args.request in
    let e : c.resolve_bar_addresses.result ≡ placement_of (record { start = n.start; end = n.end }) (declared_bars n) = c.resolve_bar_addresses.ensures ∙ rw c.functions_in-functions.ensures in
    c.placed_out.ensures ∙ rw e
