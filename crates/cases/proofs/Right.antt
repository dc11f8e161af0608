-- Every answer is the document's: all cases but one compute, and P9, where no address serves, is placement's own example.
use mathlib.Core.List.{map}
use mathlib.Core.Path.{◌≡◌}
use Rattle.word.specs.Table.{table, filled}
use Rattle.word.specs.Search.{any_below, first_below, first_of, all_below}
use Rattle.capability.specs.Declaration.{capability_of, none_declared}
use Rattle.capability.specs.Addition.{add_capability_of}
use Rattle.capability.specs.Layout.{answer_of, layout_of}
use Rattle.capability.specs.Offset.{next_multiple, offset_at}
use Rattle.capability.specs.Repeat.{repeats_at}
use Rattle.capability.specs.Blank.{nothing_placed}
use Rattle.capability.specs.Owner.{region_start, in_region, owner_of}
use Rattle.capability.specs.Touch.{allows, touch_of}
use Rattle.word.specs.Number.{number, merge, bytes_of, read_at}
use Rattle.word.specs.Interval.{covers}
use Rattle.word.specs.Width.{width_ok}
use Rattle.address.specs.Check.{access_ok, access_of}
use Rattle.bar.specs.Register.{size_mask, candidate, committed, starts_probe, class_of}
use Rattle.bar.specs.State.{asks}
use Rattle.word.specs.Store.{blend, stored}
use Rattle.config.specs.Field.{under, image_of, fields_below}
use Rattle.config.specs.PowerOn.{power_on_of}
use Rattle.config.specs.State.{in_bar}
use Rattle.config.specs.Command.{watched, revision_after, exhausted}
use Rattle.config.specs.Read.{register_bytes, read_good, read_of}
use Rattle.config.specs.Write.{store_of, bar_step, write_good, write_of}
use Rattle.placement.proofs.Examples.{p9}
use Rattle.cases.specs.Cases.{asked, told, cases}
use Rattle.config.specs.Space.{space_of}

pub cases_right : map asked cases ≡ map told cases
unfolding cases bytes_of read_at blend stored under image_of fields_below power_on_of in_bar watched revision_after exhausted register_bytes read_good read_of store_of bar_step write_good write_of table any_below capability_of none_declared add_capability_of next_multiple offset_at repeats_at first_below answer_of filled nothing_placed layout_of first_of all_below region_start in_region owner_of allows touch_of number covers merge width_ok access_ok access_of size_mask candidate committed starts_probe class_of asks space_of
cases_right = rw p9
