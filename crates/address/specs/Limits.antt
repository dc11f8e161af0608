-- How many there can be (document 01: "Limits: 8 functions, 6 BARs each, and per function 16 capabilities, 32 effects, 32 config bytes").
use Rattle.std.specs.Prelude.{ℕ}

-- a definition that refuses by a limit takes them as a parameter
pub record Limits : Type 0 where
  pub functions : ℕ
  pub capabilities : ℕ
  pub effects : ℕ
  pub config_bytes : ℕ

abbrev pub limits : Limits
limits = record { functions = 8; capabilities = 16; effects = 32; config_bytes = 32 }

-- the lengths of the arrays that hold them
abbrev pub function_room : ℕ
function_room = 8

abbrev pub capability_room : ℕ
capability_room = 16

abbrev pub effect_room : ℕ
effect_room = 32

abbrev pub config_byte_room : ℕ
config_byte_room = 32
