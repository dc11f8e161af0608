-- What an accepted file declares, for the bus and what is shown of it: proofs/Goods.antt shows that every accepted file of bytes declares this, and that a refused one declares nothing.
use Rattle.std.specs.Prelude.{ℕ, ◌+◌, ◌-◌, ◌^◌, ◌<◌, ◌≤◌, true, List, ◌≡◌, length, get_or, Option, None, Some}
use Rattle.word.specs.Interval.{covers}
use Rattle.address.specs.Kinds.{slot}
use Rattle.address.specs.Layout.{absent_vendor_id, bar_count, standard_header_end}
use Rattle.address.specs.Limits.{Limits, function_room, capability_room, effect_room, config_byte_room}
use Rattle.bar.specs.Bar.{Sized, no_bar}
use Rattle.bar.specs.Range.{four_gib}
use Rattle.bar.specs.declared.memory_bar.MemoryBar.{MemoryBar}
use Rattle.bar.specs.declared.memory_bar.Request.TheVariants as request
use Rattle.bar.specs.declared.range.Aperture.{Aperture}
use Rattle.capability.specs.Declaration.{no_capability, declared_capability, declared_effect, length_at}
use Rattle.capability.specs.Effect.{no_effect}
use Rattle.capability.specs.Offset.{offset_at}
use Rattle.capability.specs.Size.{body_most}
use Rattle.capability.specs.Sound.{Sound}
use Rattle.capability.specs.declared.declared.Capabilities.{Capabilities}
use Rattle.config.specs.ConfigByte.{no_config_byte}
use Rattle.config.specs.Space.{body_space}
use Rattle.config.specs.declared.function.ConfigByte.{ConfigByte}
use Rattle.config.specs.declared.function.Contents.{Contents}
use Rattle.config.specs.declared.function.Function.{Function}
use Rattle.config.specs.declared.function.Identity.{Identity}
use Rattle.config.specs.declared.function.Intx.{Intx}
use Rattle.declaration.specs.Blank.{no_function}
use Rattle.declaration.specs.Exactly.{Faultless}
use Rattle.declaration.specs.Standing.{most_device}
use Rattle.declaration.specs.declared.answer.Declaration.{Declaration}

-- a list of bytes, as a file is
abbrev pub Bytes : List ℕ → Type 0
Bytes l = (k : ℕ) → get_or l k 0 < 256

-- limits for which there is room
pub record Within (l : Limits) : Type 0 where
  pub functions : l.functions ≤ function_room
  pub capabilities : l.capabilities ≤ capability_room
  pub effects : l.effects ≤ effect_room
  pub config_bytes : l.config_bytes ≤ config_byte_room

-- start < end, and end not above 4 GiB
pub record GoodAperture (a : Aperture) : Type 0 where
  pub filled : a.start < a.end
  pub most : a.end ≤ four_gib

-- a vendor that is not 0xffff, and numbers of their widths
pub record GoodIdentity (i : Identity) : Type 0 where
  pub present : i.vendor ≡ absent_vendor_id → ⊥
  pub vendor : i.vendor < 2 ^ 16
  pub device : i.device < 2 ^ 16
  pub subsystem_vendor : i.subsystem_vendor < 2 ^ 16
  pub subsystem : i.subsystem < 2 ^ 16
  pub revision : i.revision < 256
  pub base_class : i.base_class < 256
  pub subclass : i.subclass < 256
  pub programming_interface : i.programming_interface < 256

-- no INTx, or a pin 1 to 4 and a line
pub data GoodIntx : Option Intx → Type 0 where
  absent : GoodIntx None
  pinned : (pin line : ℕ) → 1 ≤ pin → pin ≤ 4 → line < 256 → GoodIntx (Some (record { pin = pin; line = line }))

pub record GoodByte (b : ConfigByte) : Type 0 where
  pub offset : b.offset.0 < 256
  pub value : b.value < 256
  pub mask : b.mask < 256

-- config bytes no more than there is room for, blank past the last; bodies and masks are bytes
pub record GoodContents (c : Contents) : Type 0 where
  pub identity : GoodIdentity c.identity
  pub intx : GoodIntx c.intx
  pub room : length c.bytes ≡ config_byte_room
  pub few : c.byte_count ≤ config_byte_room
  pub bytes : (i : ℕ) → GoodByte (get_or c.bytes i no_config_byte)
  pub past : (i : ℕ) → c.byte_count ≤ i → get_or c.bytes i no_config_byte ≡ no_config_byte
  pub body_room : length c.bodies ≡ body_space
  pub mask_room : length c.masks ≡ body_space
  pub bodies : Bytes c.bodies
  pub masks : Bytes c.masks

-- what stands in slot k: nothing, or a BAR of that slot with a size by the rule
pub data GoodSlot (k : ℕ) (b : MemoryBar) : Type 0 where
  empty : b ≡ no_bar → GoodSlot k b
  used : b.slot ≡ slot k → Sized b.size → ((a : ℕ) → b.request ≡ request.Fixed a → a < 2 ^ 64) → GoodSlot k b

-- effects inside their capabilities and apart, bodies not too long, blank past the last
pub record GoodCapabilities (d : Capabilities) : Type 0 where
  pub sound : Sound d
  pub ids : (k : ℕ) → (declared_capability d k).id < 256
  pub short : (k : ℕ) → length_at d k ≤ body_most
  pub effect_ids : (j : ℕ) → (declared_effect d j).id < 2 ^ 16
  pub past : (k : ℕ) → d.count ≤ k → declared_capability d k ≡ no_capability
  pub past_effects : (j : ℕ) → d.effect_count ≤ j → declared_effect d j ≡ no_effect

-- where in the bytes from 0x40 on byte b of capability k lies
abbrev pub byte_of_capability : Capabilities → ℕ → ℕ → ℕ
byte_of_capability d k b = offset_at (length_at d) k + b - standard_header_end

-- no byte of an effect can be written: one that "covers a byte with mask not zero" is refused
abbrev pub ReadOnly : List ℕ → Capabilities → Type 0
ReadOnly masks d =
    (j b : ℕ) → j < d.effect_count → covers (declared_effect d j).offset (declared_effect d j).length b ≡ true → get_or masks (byte_of_capability d (declared_effect d j).capability b) 0 ≡ 0

pub record GoodFunction (f : Function) : Type 0 where
  pub device : f.device ≤ most_device
  pub contents : GoodContents f.contents
  pub bar_room : length f.bars ≡ bar_count
  pub bars : (k : ℕ) → k < bar_count → GoodSlot k (get_or f.bars k no_bar)
  pub capabilities : GoodCapabilities f.capabilities
  pub read_only : ReadOnly f.contents.masks f.capabilities

-- what stands at an index of the functions
abbrev pub function_in : List Function → ℕ → Function
function_in functions k = get_or functions k no_function

-- each function is good; devices ascend, so none is declared twice; blank past the last
pub record GoodFunctions (functions : List Function) (count : ℕ) : Type 0 where
  pub room : length functions ≡ function_room
  pub few : count ≤ function_room
  pub each : (k : ℕ) → GoodFunction (function_in functions k)
  pub ascends : (j k : ℕ) → j < k → k < count → (function_in functions j).device < (function_in functions k).device
  pub past : (k : ℕ) → count ≤ k → function_in functions k ≡ no_function

-- an aperture and functions, whose capabilities have a layout, with config bytes outside of it
pub record Good (d : Declaration) : Type 0 where
  pub aperture : GoodAperture d.aperture
  pub functions : GoodFunctions d.functions d.count
  pub faultless : (k : ℕ) → k < d.count → Faultless (function_in d.functions k)
