-- A read of bytes that are a number's.
use Prim.Native.Nat.{ℕ, ◌+◌, ◌%◌, ◌^◌, ◌<◌, ◌≤◌}
use mathlib.Core.List.{List}
use mathlib.Core.Path.{◌≡◌, sym, ◌∙◌}
use native.Mathlib.Nat.{min-eq_left}
use native.Mathlib.Omega.{arith}
use lib.ListN.{length, get_or, take, drop, length-take, length-drop}
use lib.Seq.{ext_get_or, get_or-take, get_or-drop}
use Rattle.word.specs.Number.{byte_of, bytes_of, read_at}
use Rattle.word.proofs.Tables.{length_table, get_or_table}
use Rattle.word.proofs.Numbers.{number_bytes}

-- where the bytes are those of v, the read is v, as far as the width holds it
pub read_bytes : (l : List ℕ) (o w v : ℕ) → w ≤ 8 → o + w ≤ length l → ((k : ℕ) → k < w → get_or l (o + k) 0 ≡ byte_of v k) → read_at l o w ≡ v % 256 ^ w
unfolding read_at bytes_of
read_bytes l o w v h b e =
    let long : length (take w (drop o l)) ≡ w = rw (length-take, length-drop) (omega arith) in
    let same : take w (drop o l) ≡ bytes_of w v = ext_get_or 0 (take w (drop o l)) (bytes_of w v) (long ∙ sym (length_table w (byte_of v))) (λ k m.
    let k< : k < w = rw long at m in
    get_or-take w (drop o l) k 0 k< ∙ get_or-drop o l k 0 ∙ e k k< ∙ sym (get_or_table w (byte_of v) k 0 k<)) in
    rw (min-eq_left {n = w} {m = 8} h, same) (number_bytes w v)
