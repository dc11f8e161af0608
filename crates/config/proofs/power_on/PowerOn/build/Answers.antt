-- `build` lays the fields of each stage over blank lists, in document 01’s order.
use mathlib.Core.Path.{◌≡◌}
use Rattle.address.specs.Layout.{config_space_size}
use Rattle.config.specs.Field.{image_of}
use Rattle.config.specs.PowerOn.{image_fields, mask_fields, power_on_of}
use Rattle.config.proofs.Fields.{laid_append, laid_blank}
use Rattle.config.proofs.power_on.PowerOn.build.Goals as goal
use Rattle.config.proofs.power_on.PowerOn.build.Goals.{Start}

pub returns : goal.returns
unfolding power_on_of
returns c =
    let a = c.args in
    let e : c.put_capabilities.new.image ≡ image_of config_space_size (image_fields a.contents a.bars a.placed) =
    rw (c.put_capabilities.ensures.0, c.put_list.ensures, c.put_bars.ensures, c.put_config_bytes.ensures.0, c.put_intx.ensures, c.put_identity.ensures, laid_append, laid_append, laid_append, laid_append, laid_append) (laid_blank config_space_size _) in
    let f : c.put_capabilities.new.mask ≡ image_of config_space_size (mask_fields a.contents a.placed) =
    rw (c.put_capabilities.ensures.1, c.put_config_bytes.ensures.1, c.put_command.ensures, laid_append, laid_append) (laid_blank config_space_size _) in
    rw (e, f)
