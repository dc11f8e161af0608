-- Reads, by where they go.
use Prim.Native.Nat.{ℕ}
use mathlib.Core.Bool.{true, false}
use mathlib.Core.List.{List}
use mathlib.Core.Path.{◌≡◌}
use native.Mathlib.Nat.{sub-zero}
use native.Mathlib.Omega.{arith}
use lib.ListN.{length}
use Rattle.word.specs.Number.{byte_of, bytes_of}
use Rattle.word.specs.Store.{put_byte, put_of}
use Rattle.word.proofs.Intervals.{covers_in}
use Rattle.word.proofs.Tables.{table_ext}
use Rattle.capability.specs.Touch.{touch_of}
use Rattle.config.specs.State.{in_bar}
use Rattle.config.specs.Read.{register_bytes, read_touched, read_good}
use Rattle.config.specs.declared.state.FunctionState.{FunctionState}
use Rattle.config.specs.declared.read_step.ReadAnswer.TheVariants.{Value}
use Rattle.std.proofs.Common.{Ok}

-- a number put over a whole list is its bytes
pub put_all : (bytes : List ℕ) (v : ℕ) → put_of bytes 0 (length bytes) v ≡ bytes_of (length bytes) v
unfolding put_of bytes_of
put_all bytes v =
    table_ext (length bytes) (put_byte bytes 0 (length bytes) v) (byte_of v) (λ k h. rw (covers_in 0 (length bytes) k (omega arith) (omega arith), sub-zero k))

-- a checked read of a BAR's register, and one elsewhere
pub read_register : (f : FunctionState) (o w : ℕ) → in_bar f.bars o ≡ true → read_good f o w ≡ Ok (Value (register_bytes f o w))
unfolding read_good
read_register f o w e = rw e

pub read_elsewhere : (f : FunctionState) (o w : ℕ) → in_bar f.bars o ≡ false → read_good f o w ≡ read_touched f o w (touch_of f.placed o w false)
unfolding read_good
read_elsewhere f o w e = rw e
