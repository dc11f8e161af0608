-- What is there before anything is declared: an empty function, and a declaration with nothing in it.
use Rattle.std.specs.Prelude.{ℕ, List, replicate, None}
use Rattle.address.specs.Layout.{bar_count}
use Rattle.address.specs.Limits.{function_room, config_byte_room}
use Rattle.bar.specs.Bar.{no_bar}
use Rattle.bar.specs.declared.range.Aperture.{Aperture}
use Rattle.capability.specs.Size.{body_most}
use Rattle.capability.specs.Declaration.{none_declared}
use Rattle.config.specs.ConfigByte.{no_config_byte}
use Rattle.config.specs.declared.function.Identity.{Identity}
use Rattle.config.specs.declared.function.Contents.{Contents}
use Rattle.config.specs.declared.function.Function.{Function}
use Rattle.config.specs.Space.{body_space}
use Rattle.declaration.specs.declared.so_far.SoFar.{SoFar}

-- the contents of a function of which only the identity is declared
unfoldable pub empty_contents : Identity → Contents
empty_contents identity =
    record { identity = identity; intx = None; bytes = replicate config_byte_room no_config_byte; byte_count = 0; bodies = replicate body_space 0; masks = replicate body_space 0 }

-- a function with a device and an identity, and nothing else declared of it
unfoldable pub empty_function : ℕ → Identity → Function
empty_function device identity = record { device = device; contents = empty_contents identity; bars = replicate bar_count no_bar; capabilities = none_declared }

abbrev pub no_identity : Identity
no_identity = record { vendor = 0; device = 0; subsystem_vendor = 0; subsystem = 0; revision = 0; base_class = 0; subclass = 0; programming_interface = 0 }

-- what stands past the last function
abbrev pub no_function : Function
no_function = empty_function 0 no_identity

abbrev pub no_aperture : Aperture
no_aperture = record { start = 0; end = 0 }

-- the write masks of no capability
unfoldable pub no_mask : List ℕ
no_mask = replicate body_most 0

-- before the first field
unfoldable pub nothing_so_far : SoFar
nothing_so_far =
    record { aperture = None; devices = replicate function_room 0; count = 0; function = no_function; mask = no_mask }
