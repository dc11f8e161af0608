-- The fields of a declaration file: which tags there are, and which body lengths each allows (document 01, "Declaration file").
use Rattle.std.specs.Prelude.{ℕ, ◌/◌, ◌%◌, Bool, false, cond, eqb, Option, Some, None}
use Rattle.capability.specs.Size.{too_long}
use Rattle.declaration.specs.declared.tag.Tag.{Tag}
use Rattle.declaration.specs.declared.tag.Tag.TheVariants.{Aperture, Function, Intx, Bar, ConfigByte, Capability, Effect}

abbrev pub aperture_tag : ℕ
aperture_tag = 1

abbrev pub function_tag : ℕ
function_tag = 2

abbrev pub intx_tag : ℕ
intx_tag = 3

abbrev pub bar_tag : ℕ
bar_tag = 4

abbrev pub config_byte_tag : ℕ
config_byte_tag = 5

abbrev pub capability_tag : ℕ
capability_tag = 6

abbrev pub effect_tag : ℕ
effect_tag = 7

-- the tag of a byte; no other is known
unfoldable pub tag_of : ℕ → Option Tag
tag_of n =
    cond (eqb n aperture_tag) (Some Aperture)
    (cond (eqb n function_tag) (Some Function)
    (cond (eqb n intx_tag) (Some Intx)
    (cond (eqb n bar_tag) (Some Bar)
    (cond (eqb n config_byte_tag) (Some ConfigByte)
    (cond (eqb n capability_tag) (Some Capability)
    (cond (eqb n effect_tag) (Some Effect)
    None))))))

-- the table: whether a field of this tag may have a body of n bytes
abbrev pub allows : Tag → ℕ → Bool
allows Aperture n = eqb n 16
allows Function n = eqb n 13
allows Intx n = eqb n 2
allows Bar n = eqb n 18
allows ConfigByte n = eqb n 3
allows Capability n = eqb (n % 2) 1
allows Effect n = eqb n 5

abbrev pub allowed_by : Option Tag → ℕ → Bool
allowed_by None n = false
allowed_by (Some t) n = allows t n

unfoldable pub length_allowed : ℕ → ℕ → Bool
length_allowed tag n = allowed_by (tag_of tag) n

-- the length of a capability's body, by that of its field: an id, and body and write mask of one length
abbrev pub capability_body : ℕ → ℕ
capability_body length = length / 2

-- refusal 10: "capability body above 253 bytes (length above 507)"
abbrev pub is_long : Tag → ℕ → Bool
is_long Aperture n = false
is_long Function n = false
is_long Intx n = false
is_long Bar n = false
is_long ConfigByte n = false
is_long Capability n = too_long (capability_body n)
is_long Effect n = false

abbrev pub long_by : Option Tag → ℕ → Bool
long_by None n = false
long_by (Some t) n = is_long t n

unfoldable pub body_long : ℕ → ℕ → Bool
body_long tag n = long_by (tag_of tag) n
