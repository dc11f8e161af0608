-- The size of a function's config space, and of its part for capabilities.
use Rattle.std.specs.Prelude.{ℕ, ◌-◌}
use Rattle.address.specs.Layout.{config_space_size, standard_header_end}
use Rattle.config.specs.declared.state.FunctionState.{FunctionState}

-- how many bytes a function's config space has: accesses are checked by it
unfoldable pub space_of : FunctionState → ℕ
space_of f = config_space_size

-- how many lie from 0x40 on: the room for bodies and masks
abbrev pub body_space : ℕ
body_space = config_space_size - standard_header_end
