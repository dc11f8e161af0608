-- A declared BAR: its slot, its size, and where it is asked for (document 01, tag 4).
use Rattle.std.specs.Prelude.{ℕ, ◌^◌, ◌≤◌, Bool, ◌&&◌, cond, ◌≡◌, leb, eqb, Result, Ok, Err}
use Rattle.word.specs.Search.{any_below}
use Rattle.address.specs.Kinds.{slot}
use Rattle.address.specs.declared.slot.Slot.{Slot}
use Rattle.bar.specs.Range.{four_gib}
use Rattle.bar.specs.declared.memory_bar.Request.{Request}
use Rattle.bar.specs.declared.memory_bar.Request.TheVariants as request
use Rattle.bar.specs.declared.memory_bar.MemoryBar.{MemoryBar}
use Rattle.refusal.specs.declared.refusal.Refusal.TheVariants as refusal
use Rattle.refusal.specs.declared.refusal.Refusal.{Refusal}

-- 2 ^ k for some k below 64
unfoldable pub power_of_two : ℕ → Bool
power_of_two n = any_below (λ k. eqb n (2 ^ k)) 64

-- the least and the largest size
abbrev pub least_size : ℕ
least_size = 16

abbrev pub most_size : ℕ
most_size = four_gib

-- refusal 7: "size below 16, not a power of two, or above 4 GiB"
unfoldable pub size_ok : ℕ → Bool
size_ok size = leb least_size size && (leb size most_size && power_of_two size)

-- what the rule says of a size (proofs/Sizes.antt shows that `size_ok` is this)
pub record Sized (size : ℕ) : Type 0 where
  pub least : least_size ≤ size
  pub most : size ≤ most_size
  pub exponent : ℕ
  pub power : size ≡ 2 ^ exponent

abbrev pub memory_bar : Slot → ℕ → Request → MemoryBar
memory_bar s size r = record { slot = s; size = size; request = r }

unfoldable pub bar_of : Slot → ℕ → Request → Result MemoryBar Refusal
bar_of s size r = cond (size_ok size) (Ok (memory_bar s size r)) (Err refusal.BadSize)

-- no BAR: what stands past the last one of a list, and in an empty slot
abbrev pub no_bar : MemoryBar
no_bar = memory_bar (slot 0) 0 request.Auto
