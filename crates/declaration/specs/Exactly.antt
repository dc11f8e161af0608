-- Exactly when a file gets which answer, in the order and the words of document 01's table: proofs/Outcomes.antt shows that an outcome always holds, and that the answer is what it says.
use Rattle.std.specs.Prelude.{ℕ, ◌<◌, Bool, true, false, List, ◌++◌, ◌≡◌, length, get_or, Some, None, Result, Ok, Err}
use Rattle.refusal.specs.declared.refusal.Refusal.{Refusal}
use Rattle.refusal.specs.declared.refusal.Refusal.TheVariants as refusal
use Rattle.address.specs.Layout.{config_space_size}
use Rattle.address.specs.Limits.{Limits}
use Rattle.bar.specs.declared.range.Aperture.{Aperture}
use Rattle.capability.specs.Layout.{placed_of, repeated_at, past_at}
use Rattle.capability.specs.Ruling.{Ruling}
use Rattle.config.specs.ConfigByte.{byte_count, byte_bad}
use Rattle.config.specs.declared.function.Function.{Function}
use Rattle.declaration.specs.Answer.{accepted_with, refused_with}
use Rattle.declaration.specs.Blank.{nothing_so_far}
use Rattle.declaration.specs.Check.{Check, ◌when◌}
use Rattle.declaration.specs.Finished.{count_in, function_at, none_finished, finished_so_far, finished_after}
use Rattle.declaration.specs.Frame.{tag_at, body_at, field_end, framing_checks}
use Rattle.declaration.specs.Row.{rule_checks}
use Rattle.declaration.specs.Said.{said_of}
use Rattle.declaration.specs.Take.{with_said}
use Rattle.declaration.specs.declared.answer.Declaration.{Declaration}
use Rattle.declaration.specs.declared.answer.DeclarationRefusal.{DeclarationRefusal}
use Rattle.declaration.specs.declared.answer.Place.TheVariants as place
use Rattle.declaration.specs.declared.finished.Finished.{Finished}
use Rattle.declaration.specs.declared.said.Said.{Said}
use Rattle.declaration.specs.declared.so_far.SoFar.{SoFar}

-- a check's refusal, and whether it fails
abbrev pub refusal_in : Check → Refusal
refusal_in (r when fails) = r

abbrev pub fails_at : Check → Bool
fails_at (r when fails) = fails

abbrev pub check_at : List Check → ℕ → Check
check_at cs k = get_or cs k (refusal.FieldCut when false)

-- the first check of a list that fails has the refusal r
pub record FirstFails (cs : List Check) (r : Refusal) : Type 0 where
  pub index : ℕ
  pub below : index < length cs
  pub fails : fails_at (check_at cs index) ≡ true
  pub its : refusal_in (check_at cs index) ≡ r
  pub before : (k : ℕ) → k < index → fails_at (check_at cs k) ≡ false

-- none of them fails
abbrev pub NoneFails : List Check → Type 0
NoneFails cs = (k : ℕ) → k < length cs → fails_at (check_at cs k) ≡ false

-- what the field at a position says
abbrev pub said_at : List ℕ → ℕ → Result Said Refusal
said_at file at = said_of (tag_at file at) (body_at file at)

-- all checks of the field at a position, after fields that declare s: "Order within a field: header cut, tag and length, 10, body cut, other cases of 2, then 3, 4, 5, 6, 7, 8, 11"
abbrev pub all_checks : Limits → List ℕ → ℕ → SoFar → List Check
all_checks l file at s = framing_checks file at ++ rule_checks l s (said_at file at)

-- what is declared with the field
abbrev pub now_after : List ℕ → ℕ → SoFar → SoFar
now_after file at s = with_said s (said_at file at) (body_at file at)

-- the fields before a position are accepted, one after the other; they declare s, and all but the latest function are in f
pub data Reached (l : Limits) (file : List ℕ) : ℕ → SoFar → Finished → Type 0 where
  start : Reached l file 0 nothing_so_far none_finished
  field : (at : ℕ) (s : SoFar) (f : Finished) → Reached l file at s f → at < length file → NoneFails (all_checks l file at s) → Reached l file (field_end file at) (now_after file at s) (finished_after s (now_after file at s) f)

-- a row of the table at a field: its condition holds there, and none of the n checks before it fails
pub record RowAt (l : Limits) (file : List ℕ) (at n : ℕ) (row : SoFar → Bool) : Type 0 where
  pub now : SoFar
  pub finished : Finished
  pub reached : Reached l file at now finished
  pub inside : at < length file
  pub holds : row now ≡ true
  pub before : (k : ℕ) → k < n → fails_at (check_at (all_checks l file at now) k) ≡ false

-- "file ends with no aperture (place: its length)"
pub record EndsBare (l : Limits) (file : List ℕ) (at : ℕ) : Type 0 where
  pub now : SoFar
  pub finished : Finished
  pub reached : Reached l file at now finished
  pub ends : at ≡ length file
  pub bare : now.aperture ≡ None

-- refusals of the reading, at an offset of the file
pub data RefusedAt (l : Limits) (file : List ℕ) (r : Refusal) : ℕ → Type 0 where
  -- 1 to 8, 10, 11: "The first bad field decides", and of its checks the first that fails
  bad_field : (at : ℕ) (s : SoFar) (f : Finished) → Reached l file at s f → at < length file → FirstFails (all_checks l file at s) r → RefusedAt l file r at
  -- 3, where the file ends
  no_aperture : (at : ℕ) → EndsBare l file at → r ≡ refusal.OutOfOrder → RefusedAt l file r at

-- every field is accepted, and they declare an aperture and these functions
pub record Read (l : Limits) (file : List ℕ) (a : Aperture) (f : Finished) : Type 0 where
  pub now : SoFar
  pub finished : Finished
  pub reached : Reached l file (length file) now finished
  pub aperture : now.aperture ≡ Some a
  pub functions : finished_so_far finished now ≡ f

-- 9 at config byte i of a function whose capabilities are laid out
abbrev pub bad_byte_at : Function → ℕ → Bool
bad_byte_at f i = byte_bad config_space_size f.contents (placed_of f.capabilities) i

-- the first fault of a function: "capabilities in order (12 before 13 for each), then config bytes (9)"
pub data FirstFault (f : Function) : Refusal → ℕ → Type 0 where
  repeated_id : (k : ℕ) → Ruling config_space_size f.capabilities (Err (repeated_at k)) → FirstFault f refusal.RepeatedEffect k
  past_end : (k : ℕ) → Ruling config_space_size f.capabilities (Err (past_at k)) → FirstFault f refusal.PastSpace k
  bad_byte : (i : ℕ) → Ruling config_space_size f.capabilities (Ok tt) → i < byte_count f.contents → bad_byte_at f i ≡ true → ((k : ℕ) → k < i → bad_byte_at f k ≡ false) → FirstFault f refusal.BadConfigByte i

-- a function without one
pub record Faultless (f : Function) : Type 0 where
  pub placed : Ruling config_space_size f.capabilities (Ok tt)
  pub bytes : (i : ℕ) → i < byte_count f.contents → bad_byte_at f i ≡ false

-- refusals "after the whole file, for each device ascending": the first function with a fault, at its first
pub record FaultyAt (l : Limits) (file : List ℕ) (r : Refusal) (device index : ℕ) : Type 0 where
  pub its : Aperture
  pub functions : Finished
  pub read : Read l file its functions
  pub position : ℕ
  pub below : position < count_in functions
  pub before : (k : ℕ) → k < position → Faultless (function_at functions k)
  pub fault : FirstFault (function_at functions position) r index
  pub there : (function_at functions position).device ≡ device

-- a file with no refusal
pub record Passed (l : Limits) (file : List ℕ) (a : Aperture) (f : Finished) : Type 0 where
  pub read : Read l file a f
  pub faultless : (k : ℕ) → k < count_in f → Faultless (function_at f k)

-- the three answers
pub data Outcome (l : Limits) (file : List ℕ) : Result Declaration DeclarationRefusal → Type 0 where
  at_offset : (r : Refusal) (p : ℕ) → RefusedAt l file r p → Outcome l file (refused_with r (place.Offset p))
  at_index : (r : Refusal) (device index : ℕ) → FaultyAt l file r device index → Outcome l file (refused_with r (place.Index device index))
  passed : (a : Aperture) (f : Finished) → Passed l file a f → Outcome l file (accepted_with a f)
