-- What the checks of a declared function leave (document 01, refusals 9 and 13): laws of the power-on image ask for it, no promise does.
use Rattle.std.specs.Prelude.{ℕ, ◌≤◌, ◌≡◌, Ok}
use Rattle.address.specs.Layout.{config_space_size}
use Rattle.capability.specs.Laid.{Laid}
use Rattle.capability.specs.declared.placed.Placed.{Placed}
use Rattle.config.specs.ConfigByte.{byte_check_of}
use Rattle.config.specs.declared.function.Contents.{Contents}

-- capabilities that a layout put below 0x100, and config bytes that pass refusal 9, in a config space that has at least those 256 bytes
pub record Admitted (space : ℕ) (f : Contents) (p : Placed) : Type 0 where
  pub wide : config_space_size ≤ space
  pub laid : Laid config_space_size p
  pub checked : byte_check_of space f p ≡ Ok tt
