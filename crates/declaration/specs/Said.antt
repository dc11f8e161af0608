-- Form: what a field's body says, in numbers of their widths (document 01, "Declaration file"; "byte outside its set, automatic address not zero" are refusal 2).
use Rattle.std.specs.Prelude.{ℕ, ◌&&◌, cond, List, leb, eqb, length, get_or, Option, Some, None, Result, Ok, Err}
use Rattle.refusal.specs.declared.refusal.Refusal.{Refusal}
use Rattle.refusal.specs.declared.refusal.Refusal.TheVariants.{BadForm}
use Rattle.word.specs.Number.{read_at}
use Rattle.bar.specs.declared.memory_bar.Request.TheVariants as request
use Rattle.capability.specs.Effect.{access_of_number}
use Rattle.capability.specs.declared.effect.EffectAccess.{EffectAccess}
use Rattle.config.specs.declared.function.Identity.{Identity}
use Rattle.declaration.specs.Tag.{tag_of, allows, capability_body}
use Rattle.declaration.specs.declared.said.Said.{Said}
use Rattle.declaration.specs.declared.said.Said.TheVariants as said
use Rattle.declaration.specs.declared.tag.Tag.{Tag}
use Rattle.declaration.specs.declared.tag.Tag.TheVariants.{Aperture, Function, Intx, Bar, ConfigByte, Capability, Effect}

-- a byte of the body
abbrev pub byte_in : List ℕ → ℕ → ℕ
byte_in body i = get_or body i 0

-- "start, end (8 each)"
abbrev pub aperture_said : List ℕ → Said
aperture_said body = said.Aperture (read_at body 0 8) (read_at body 8 8)

-- "device 1, vendor 2, device id 2, subsystem vendor 2, subsystem id 2, revision, base class, subclass, programming interface"
abbrev pub identity_in : List ℕ → Identity
identity_in body =
    record {
      vendor = read_at body 1 2;
      device = read_at body 3 2;
      subsystem_vendor = read_at body 5 2;
      subsystem = read_at body 7 2;
      revision = byte_in body 9;
      base_class = byte_in body 10;
      subclass = byte_in body 11;
      programming_interface = byte_in body 12;
    }

abbrev pub function_said : List ℕ → Said
function_said body = said.Function (byte_in body 0) (identity_in body)

-- "pin 1 to 4, line"
abbrev pub intx_said : List ℕ → Result Said Refusal
intx_said body = cond (leb 1 (byte_in body 0) && leb (byte_in body 0) 4) (Ok (said.Intx (byte_in body 0) (byte_in body 1))) (Err BadForm)

-- "slot 1, kind 1 (0 automatic, 1 fixed), size 8, address 8 (zero if automatic)"
abbrev pub automatic_said : List ℕ → Result Said Refusal
automatic_said body = cond (eqb (read_at body 10 8) 0) (Ok (said.Bar (byte_in body 0) (read_at body 2 8) request.Auto)) (Err BadForm)

abbrev pub fixed_said : List ℕ → Said
fixed_said body = said.Bar (byte_in body 0) (read_at body 2 8) (request.Fixed (read_at body 10 8))

abbrev pub bar_said : List ℕ → Result Said Refusal
bar_said body = cond (eqb (byte_in body 1) 0) (automatic_said body) (cond (eqb (byte_in body 1) 1) (Ok (fixed_said body)) (Err BadForm))

-- "offset, value, write mask"
abbrev pub config_byte_said : List ℕ → Said
config_byte_said body = said.ConfigByte (byte_in body 0) (byte_in body 1) (byte_in body 2)

-- "id, body n, write mask n"
abbrev pub capability_said : List ℕ → Said
capability_said body = said.Capability (byte_in body 0) (capability_body (length body))

-- "effect id 2, offset 1, length 1, access 1 (1 read, 2 write, 3 both)"
abbrev pub access_said : List ℕ → Result EffectAccess Refusal → Result Said Refusal
access_said body (Ok access) = Ok (said.Effect (read_at body 0 2) (byte_in body 2) (byte_in body 3) access)
access_said body (Err r) = Err r

abbrev pub effect_said : List ℕ → Result Said Refusal
effect_said body = access_said body (access_of_number (byte_in body 4))

-- by the tag
abbrev pub said_by : Tag → List ℕ → Result Said Refusal
said_by Aperture body = Ok (aperture_said body)
said_by Function body = Ok (function_said body)
said_by Intx body = intx_said body
said_by Bar body = bar_said body
said_by ConfigByte body = Ok (config_byte_said body)
said_by Capability body = Ok (capability_said body)
said_by Effect body = effect_said body

-- a body of an unknown tag, or of a length that the table does not allow, is badly formed
abbrev pub said_tagged : Option Tag → List ℕ → Result Said Refusal
said_tagged None body = Err BadForm
said_tagged (Some t) body = cond (allows t (length body)) (said_by t body) (Err BadForm)

unfoldable pub said_of : ℕ → List ℕ → Result Said Refusal
said_of tag body = said_tagged (tag_of tag) body
