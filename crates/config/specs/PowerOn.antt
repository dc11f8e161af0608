-- The power-on image and the write masks of a function, as fields in document 01's order ("Power-on image").
use Rattle.std.specs.Prelude.{ℕ, ◌+◌, cond, Option, None, Some, List, [], ◌∷◌, ◌++◌, eqb, get_or}
use Rattle.address.specs.Layout as layout
use Rattle.address.specs.Kinds.{slot, register_of}
use Rattle.bar.specs.Register.{committed}
use Rattle.bar.specs.declared.bar_state.BarState.{BarState}
use Rattle.capability.specs.Size.{header_size}
use Rattle.capability.specs.Owner.{capability_count, capability_at, start_of}
use Rattle.capability.specs.declared.placed.Placed.{Placed}
use Rattle.config.specs.ConfigByte.{no_config_byte, byte_count}
use Rattle.config.specs.Field.{Field, at, part, image_of, fields_below}
use Rattle.config.specs.Command.{command_low, command_high}
use Rattle.config.specs.State.{bar_at}
use Rattle.config.specs.declared.function.Identity.{Identity}
use Rattle.config.specs.declared.function.Intx.{Intx}
use Rattle.config.specs.declared.function.ConfigByte.{ConfigByte}
use Rattle.config.specs.declared.function.Contents.{Contents}
use Rattle.config.specs.declared.power_on.PowerOn.{PowerOn}

-- "vendor 0x00, device id 0x02, .. revision 0x08, class 0x09 to 0x0b, header type 0x0e = 0, .. subsystem 0x2c and 0x2e"
abbrev pub identity_fields : Identity → List Field
identity_fields i =
    at layout.vendor_id 2 i.vendor ∷
    at layout.device_id 2 i.device ∷
    at layout.revision 1 i.revision ∷
    at layout.programming_interface 1 i.programming_interface ∷
    at layout.subclass 1 i.subclass ∷
    at layout.base_class 1 i.base_class ∷
    at layout.header_type 1 0 ∷
    at layout.subsystem_vendor_id 2 i.subsystem_vendor ∷
    at layout.subsystem_device_id 2 i.subsystem ∷
    []

-- "line 0x3c, pin 0x3d (1 to 4; both zero without INTx)"
abbrev pub intx_fields : Option Intx → List Field
intx_fields None = []
intx_fields (Some x) = at layout.interrupt_line 1 x.line ∷ at layout.interrupt_pin 1 x.pin ∷ []

-- the declared pin
abbrev pub pin_of : Option Intx → ℕ
pin_of None = 0
pin_of (Some x) = x.pin

-- the command bits that are writable
abbrev pub command_fields : List Field
command_fields = at layout.command 1 command_low ∷ at (layout.command + 1) 1 command_high ∷ []

-- "Config bytes come next and win over INTx at 0x3c; the later of two at one offset wins": the first n, each with its value or its mask
abbrev pub config_field : (ConfigByte → ℕ) → ConfigByte → Field
config_field f b = at b.offset.0 1 (f b)

abbrev pub config_fields : (ConfigByte → ℕ) → List ConfigByte → ℕ → List Field
config_fields f bytes n = fields_below (λ i. config_field f (get_or bytes i no_config_byte) ∷ []) n

abbrev pub byte_values : Contents → ℕ → List Field
byte_values f n = config_fields (λ b. b.value) f.bytes n

abbrev pub byte_masks : Contents → ℕ → List Field
byte_masks f n = config_fields (λ b. b.mask) f.bytes n

-- "Then BAR addresses": the first n slots, where there is a BAR
abbrev pub bar_field : BarState → ℕ → List Field
bar_field b n = cond (eqb b.plan.size 0) [] (at (register_of (slot n)) layout.bar_register_size (committed b.plan.address) ∷ [])

abbrev pub bar_fields : List BarState → ℕ → List Field
bar_fields bars n = fields_below (λ i. bar_field (bar_at bars i) i) n

-- "With any capability, status gets 0x10 and 0x34 the first offset."
abbrev pub list_fields : Placed → List Field
list_fields p =
    cond (eqb (capability_count p) 0) [] (at layout.status 1 layout.capabilities_list ∷ at layout.capability_pointer 1 (start_of p 0) ∷ [])

-- the body of a capability, or its masks: both lie at their places from 0x40 on
abbrev pub body_field : Placed → List ℕ → ℕ → Field
body_field p bytes i = part (start_of p i + header_size) (capability_at p i).length layout.standard_header_end bytes

-- "At each capability: id, next offset or 0, body, masks": the first n
abbrev pub header_fields : Placed → ℕ → List Field
header_fields p i = at (start_of p i) 1 (capability_at p i).id ∷ at (start_of p i + 1) 1 (start_of p (i + 1)) ∷ []

abbrev pub capability_fields : Placed → List ℕ → ℕ → List Field
capability_fields p bodies n = fields_below (λ i. header_fields p i ++ (body_field p bodies i ∷ [])) n

abbrev pub capability_masks : Placed → List ℕ → ℕ → List Field
capability_masks p masks n = fields_below (λ i. body_field p masks i ∷ []) n

-- the image: identity, INTx, config bytes, BAR addresses, capabilities
abbrev pub image_fields : Contents → List BarState → Placed → List Field
image_fields f bars p =
    identity_fields f.identity ++
    (intx_fields f.intx ++
    (byte_values f (byte_count f) ++
    (bar_fields bars layout.bar_count ++
    (list_fields p ++ capability_fields p f.bodies (capability_count p)))))

-- the masks: command, config bytes, capabilities; "everything else is .. read-only"
abbrev pub mask_fields : Contents → Placed → List Field
mask_fields f p =
    command_fields ++ (byte_masks f (byte_count f) ++ capability_masks p f.masks (capability_count p))

-- both, of `space` bytes; "everything else is zero"
unfoldable pub power_on_of : ℕ → Contents → List BarState → Placed → PowerOn
power_on_of space f bars p = record { image = image_of space (image_fields f bars p); mask = image_of space (mask_fields f p) }
