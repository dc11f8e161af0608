-- A read of config space (document 01, "Access and reset").
use Rattle.std.specs.Prelude.{ℕ, ◌%◌, false, cond, Some, None, Ok, Err, Result}
use Rattle.word.specs.Number.{read_at, bytes_of}
use Rattle.address.specs.Layout.{bar_register_size}
use Rattle.address.specs.Check.{access_of}
use Rattle.address.specs.declared.access.Access.{Access}
use Rattle.bar.specs.State.{shown}
use Rattle.capability.specs.Touch.{touch_of, Touch}
use Rattle.capability.specs.Snapshot.{snapshot_of}
use Rattle.config.specs.State.{bar_at, slot_at, in_bar}
use Rattle.config.specs.Space.{space_of}
use Rattle.config.specs.declared.state.FunctionState.{FunctionState}
use Rattle.config.specs.declared.read_step.ReadAnswer.{ReadAnswer}
use Rattle.config.specs.declared.read_step.ReadAnswer.TheVariants.{Value, Effect}
use Rattle.refusal.specs.declared.refusal.Refusal.{Refusal}

-- "a read shows the committed address .., or, while probing, the size mask": the bytes asked of what the register shows
unfoldable pub register_bytes : FunctionState → ℕ → ℕ → ℕ
register_bytes f o w = read_at (bytes_of bar_register_size (shown (bar_at f.bars (slot_at o)))) (o % bar_register_size) w

-- "Elsewhere, an access that touches an effect follows 19, or is answered ..; nothing changes. Any other read gives the live bytes"
abbrev pub read_touched : FunctionState → ℕ → ℕ → Touch → Result ReadAnswer Refusal
read_touched f o w (Ok None) = Ok (Value (read_at f.live o w))
read_touched f o w (Ok (Some hit)) = Ok (Effect hit (snapshot_of f.placed f.live hit.region.capability))
read_touched f o w (Err r) = Err r

-- a checked read
unfoldable pub read_good : FunctionState → ℕ → ℕ → Result ReadAnswer Refusal
read_good f o w = cond (in_bar f.bars o) (Ok (Value (register_bytes f o w))) (read_touched f o w (touch_of f.placed o w false))

-- "Check 18 first."
abbrev pub read_checked : FunctionState → Result Access Refusal → Result ReadAnswer Refusal
read_checked f (Err r) = Err r
read_checked f (Ok a) = read_good f a.offset.0 a.width

unfoldable pub read_of : FunctionState → ℕ → ℕ → Result ReadAnswer Refusal
read_of f o w = read_checked f (access_of (space_of f) o w)
