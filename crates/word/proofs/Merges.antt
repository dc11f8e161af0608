-- Bytes put in place of a dword's: exactly the named lanes change.
use Prim.Native.Nat.{ℕ, ◌-◌, ◌%◌, ◌^◌, ◌<◌}
use mathlib.Core.Bool.{true, false}
use mathlib.Core.Logic.{⊎_elim}
use mathlib.Core.Path.{◌≡◌, ap, ◌∙◌}
use native.Mathlib.Nat.{mod-lt, sub-zero, div-one}
use native.Mathlib.Omega.{arith}
use Rattle.std.specs.Int.{w32, to_le_bytes}
use lib.ListN.{get_or, replicate, get_or-replicate}
use Rattle.word.specs.Table.{table}
use Rattle.word.specs.Interval.{covers}
use Rattle.word.specs.Number.{number, byte_of, bytes_of, merged_byte, merge}
use Rattle.word.specs.Store.{stored_byte, stored}
use Rattle.word.proofs.Tests.{true_or_false, below_or_not}
use Rattle.word.proofs.Intervals.{covers_in, covers_before, covers_after}
use Rattle.word.proofs.Tables.{length_table, get_or_table, table_ext, table_below}
use Rattle.word.proofs.Blends.{blend_all}
use Rattle.word.proofs.Numbers.{number_lt, byte_number, number_bytes}

byte_lt : (dword lane width value k : ℕ) → merged_byte dword lane width value k < 256
byte_lt dword lane width value k =
    ⊎_elim (λ (t : covers lane width k ≡ true). rw t (mod-lt _ (omega arith)))
    (λ (t : covers lane width k ≡ false). rw t (mod-lt _ (omega arith)))
    (true_or_false (covers lane width k))

bytes_lt : (dword lane width value i : ℕ) → get_or (table 4 (merged_byte dword lane width value)) i 0 < 256
bytes_lt dword lane width value = table_below 4 (merged_byte dword lane width value) 256 (omega arith) (byte_lt dword lane width value)

-- a merge is a dword
pub merge_lt : (dword lane width value : ℕ) → merge dword lane width value < 2 ^ 32
unfolding merge
merge_lt dword lane width value =
    rw (length_table 4 (merged_byte dword lane width value)) at (number_lt (table 4 (merged_byte dword lane width value)) (bytes_lt dword lane width value))

-- byte k of a merge is the value's where the lanes name it, else the dword's
pub merge_byte : (dword lane width value k : ℕ) → k < 4 → byte_of (merge dword lane width value) k ≡ merged_byte dword lane width value k
unfolding merge
merge_byte dword lane width value k h =
    byte_number (table 4 (merged_byte dword lane width value)) k (rw (length_table 4 (merged_byte dword lane width value)) h) (bytes_lt dword lane width value) ∙
    get_or_table 4 (merged_byte dword lane width value) k 0 h

-- a merge of the whole dword is the value
pub merge_whole : (dword value : ℕ) → merge dword 0 4 value ≡ value % 2 ^ 32
unfolding merge bytes_of
merge_whole dword value =
    ap number (table_ext 4 (merged_byte dword 0 4 value) (byte_of value) (λ k h. rw (covers_in 0 4 k (omega arith) (omega arith), sub-zero k))) ∙ number_bytes 4 value

-- a merge of no bytes changes nothing
pub merge_none : (dword lane value : ℕ) → dword < 2 ^ 32 → merge dword lane 0 value ≡ dword
unfolding merge bytes_of
merge_none dword lane value h =
    ap number (table_ext 4 (merged_byte dword lane 0 value) (byte_of dword) (λ k l.
    ⊎_elim (λ a. rw (covers_before lane 0 k a)) (λ a. rw (covers_after lane 0 k (omega arith))) (below_or_not k lane))) ∙
    number_bytes 4 dword ∙ omega arith

-- the store under four masks of ones spells the merge
pub stored_merge : (dword lane width value : ℕ) → number (stored (replicate 4 255) (bytes_of 4 dword) lane width value) ≡ merge dword lane width value
unfolding merge stored bytes_of
stored_merge dword lane width value = rw (length_table 4 (byte_of dword)) (ap number (table_ext 4 (stored_byte (replicate 4 255) (table 4 (byte_of dword)) lane width value) (merged_byte dword lane width value) (λ k h.
    rw (get_or_table 4 (byte_of dword) k 0 h, get_or-replicate {A = ℕ} 4 k 255 0 h, blend_all (byte_of dword k) (byte_of value (k - lane)) (mod-lt _ (omega arith))))))

-- std's word for the four bytes of a dword
pub le_four : (dword : ℕ) → to_le_bytes w32 dword ≡ bytes_of 4 dword
unfolding bytes_of table
le_four dword = rw (div-one dword)
