-- An effect as text: "effect CC IIII OO LL A RR BODY", and with R-9 one more field at the end.
use Rattle.std.specs.Prelude.{ℕ, ◌+◌, ◌*◌, min, cond, List, [], ◌∷◌, ◌++◌, eqb, get_or}
use Rattle.text.specs.Numeral.{hex_of}
use Rattle.text.specs.Part.{parts_below}
use Rattle.text.specs.Line.{blank, ended, column}
use Rattle.capability.specs.Size.{body_most}
use Rattle.capability.specs.declared.placed.PlacedEffect.{PlacedEffect}
use Rattle.capability.specs.declared.effect_access.EffectHit.{EffectHit}
use Rattle.capability.specs.declared.snapshot.Snapshot.{Snapshot}

-- "effect" and "-", in ASCII
abbrev pub effect_word : List ℕ
effect_word = 101 ∷ 102 ∷ 102 ∷ 101 ∷ 99 ∷ 116 ∷ []

abbrev pub dash : List ℕ
dash = 45 ∷ []

-- "the copy of the live body in hex"
abbrev pub byte_text : List ℕ → ℕ → List ℕ
byte_text bytes k = hex_of 2 (get_or bytes k 0)

unfoldable pub body_bytes : Snapshot → List ℕ
body_bytes body = parts_below (byte_text body.bytes) (min body.length body_most)

-- "or `-` where it is empty"
unfoldable pub body_text : Snapshot → List ℕ
body_text body = cond (eqb body.length 0) dash (body_bytes body)

-- a blank before it
unfoldable pub body_column : Snapshot → List ℕ
body_column body = blank ++ body_text body

-- the room that a text takes at most
abbrev pub body_room : ℕ
body_room = body_most * 2

-- "effect id, its offset and length, access (1 to 3)"
unfoldable pub region_text : PlacedEffect → List ℕ
region_text e = column 4 e.id ++ column 2 e.offset ++ column 2 e.length ++ column 1 e.access

abbrev pub region_room : ℕ
region_room = 13

-- "capability id, .., the access's offset from the capability's start", the body, and "at the end: the offset from the region's start, two digits"
unfoldable pub effect_text : EffectHit → Snapshot → List ℕ
effect_text hit body =
    effect_word ++ column 2 hit.capability_id ++ region_text hit.region ++ column 2 hit.offset ++ body_column body ++ column 2 hit.region_offset ++ ended

abbrev pub effect_room : ℕ
effect_room = 6 + 3 + region_room + 3 + 1 + body_room + 3 + 1
