-- What a field does to the declaration so far: it is refused by the first check that fails, or the declaration has it.
use Rattle.std.specs.Prelude.{ℕ, ◌+◌, ◌-◌, List, length, set, Some, Result, Ok, Err}
use Rattle.refusal.specs.declared.refusal.Refusal.{Refusal}
use Rattle.word.specs.Number.{part_of}
use Rattle.word.specs.Store.{laid_over}
use Rattle.address.specs.Layout.{standard_header_end}
use Rattle.address.specs.Limits.{Limits}
use Rattle.address.specs.Kinds.{slot, offset}
use Rattle.bar.specs.Bar.{memory_bar}
use Rattle.capability.specs.Size.{header_size}
use Rattle.capability.specs.Declaration.{capability, count_of, latest, length_at, with_capability, with_effect}
use Rattle.capability.specs.Effect.{effect}
use Rattle.capability.specs.Offset.{offset_at}
use Rattle.capability.specs.declared.declared.Capabilities.{Capabilities}
use Rattle.config.specs.declared.function.Contents.{Contents}
use Rattle.config.specs.declared.function.Function.{Function}
use Rattle.declaration.specs.Blank.{empty_function, no_mask}
use Rattle.declaration.specs.Check.{first_failing, unless_refused}
use Rattle.declaration.specs.Said.{said_of}
use Rattle.declaration.specs.Row.{field_checks}
use Rattle.declaration.specs.declared.said.Said.{Said}
use Rattle.declaration.specs.declared.said.Said.TheVariants.{Aperture, Function as NewFunction, Intx, Bar, ConfigByte, Capability, Effect}
use Rattle.declaration.specs.declared.so_far.SoFar.{SoFar}

-- the declaration so far with another latest function
abbrev pub with_function : SoFar → Function → SoFar
with_function s f = record { aperture = s.aperture; devices = s.devices; count = s.count; function = f; mask = s.mask }

abbrev pub with_contents : Function → Contents → Function
with_contents f c = record { device = f.device; contents = c; bars = f.bars; capabilities = f.capabilities }

abbrev pub with_capabilities : Function → Capabilities → Function
with_capabilities f c = record { device = f.device; contents = f.contents; bars = f.bars; capabilities = c }

-- where in the bytes from 0x40 on the body of the next capability lies
abbrev pub body_place : Capabilities → ℕ
body_place d = offset_at (length_at d) (count_of d) + header_size - standard_header_end

-- a capability's field is "id, body n, write mask n"
abbrev pub body_part : ℕ → List ℕ → List ℕ
body_part n body = part_of body 1 n

abbrev pub mask_part : ℕ → List ℕ → List ℕ
mask_part n body = part_of body (1 + n) n

-- bytes with a part laid over them from `o` on
abbrev pub with_part : List ℕ → ℕ → List ℕ → List ℕ
with_part bytes o part = laid_over bytes o (length part) part

abbrev pub bodies_with : Contents → Capabilities → ℕ → List ℕ → Contents
bodies_with c d n body =
    record { identity = c.identity; intx = c.intx; bytes = c.bytes; byte_count = c.byte_count; bodies = with_part c.bodies (body_place d) (body_part n body); masks = with_part c.masks (body_place d) (mask_part n body) }

-- what each field declares
abbrev pub with_intx : Contents → ℕ → ℕ → Contents
with_intx c pin line = record { identity = c.identity; intx = Some (record { pin = pin; line = line }); bytes = c.bytes; byte_count = c.byte_count; bodies = c.bodies; masks = c.masks }

abbrev pub with_byte : Contents → ℕ → ℕ → ℕ → Contents
with_byte c o value mask =
    record { identity = c.identity; intx = c.intx; bytes = set c.bytes c.byte_count (record { offset = offset o; value = value; mask = mask }); byte_count = c.byte_count + 1; bodies = c.bodies; masks = c.masks }

abbrev pub with_field : SoFar → Said → List ℕ → SoFar
with_field s (Aperture start end) body =
    record { aperture = Some (record { start = start; end = end }); devices = s.devices; count = s.count; function = s.function; mask = s.mask }
with_field s (NewFunction device identity) body =
    record { aperture = s.aperture; devices = set s.devices s.count device; count = s.count + 1; function = empty_function device identity; mask = no_mask }
with_field s (Intx pin line) body = with_function s (with_contents s.function (with_intx s.function.contents pin line))
with_field s (Bar k size request) body =
    with_function s (record { device = s.function.device; contents = s.function.contents; bars = set s.function.bars k (memory_bar (slot k) size request); capabilities = s.function.capabilities })
with_field s (ConfigByte o value mask) body = with_function s (with_contents s.function (with_byte s.function.contents o value mask))
with_field s (Capability id n) body =
    record {
      aperture = s.aperture;
      devices = s.devices;
      count = s.count;
      function = with_capabilities (with_contents s.function (bodies_with s.function.contents s.function.capabilities n body)) (with_capability s.function.capabilities (capability id n));
      mask = with_part no_mask 0 (mask_part n body);
    }
with_field s (Effect id o w access) body =
    with_function s (with_capabilities s.function (with_effect s.function.capabilities (effect id (latest s.function.capabilities) o w access)))

abbrev pub with_said : SoFar → Result Said Refusal → List ℕ → SoFar
with_said s (Ok f) body = with_field s f body
with_said s (Err r) body = s

-- the refusal of the first check that fails, or the declaration with the field
unfoldable pub taken_said : Limits → SoFar → Result Said Refusal → List ℕ → Result SoFar Refusal
taken_said l s f body = unless_refused (first_failing (field_checks l s f)) (with_said s f body)

abbrev pub taken_of : Limits → SoFar → ℕ → List ℕ → Result SoFar Refusal
taken_of l s tag body = taken_said l s (said_of tag body) body
