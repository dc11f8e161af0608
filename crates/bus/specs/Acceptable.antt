-- Which addresses a BAR can be moved to, in document 01's words, by function and slot, and what a write that asks for one answers. proofs/AcceptExact.antt shows that `accepts` and `bus_write_of` are this.
use Rattle.std.specs.Prelude.{ℕ, ◌<◌, true, false, ◌≡◌, Ok}
use Rattle.address.specs.Layout.{bar_count}
use Rattle.bar.specs.Range.{range, multiple, lies_in, meets}
use Rattle.bar.specs.State.{range_of}
use Rattle.bar.specs.declared.range.Range.{Range}
use Rattle.bus.specs.Bus.{count_on, bar_in}
use Rattle.bus.specs.declared.state.Bus.{Bus}
use Rattle.bus.specs.declared.write_access.BusWriteAnswer.{BusWriteAnswer}
use Rattle.bus.specs.declared.write_access.BusWriteAnswer.TheVariants.{Moved, Kept}
use Rattle.bus.specs.declared.write_access.BusWriteDone.{BusWriteDone}

-- the range of the BAR in slot i of function k, were it at an address
abbrev pub range_from : Bus → ℕ → ℕ → ℕ → Range
range_from b k i a = range a (bar_in b k i).plan.size

-- "accepted exactly if it is a multiple of size, its range lies in the aperture, and it meets no other BAR's committed range on the bus, whether decoding or not"
pub record Acceptable (b : Bus) (k i a : ℕ) : Type 0 where
  pub aligned : multiple (range_from b k i a) ≡ true
  pub within : lies_in b.aperture (range_from b k i a) ≡ true
  pub clear : (j h : ℕ) → j < count_on b → h < bar_count → ((j ≡ k) × (h ≡ i) → ⊥) → meets (range_from b k i a) (range_of (bar_in b j h)) ≡ false

-- the answer of a write, and the BAR after it: "probing ends"
pub record Told (r : BusWriteDone) (k i : ℕ) (answer : BusWriteAnswer) (address : ℕ) : Type 0 where
  pub says : r.answer ≡ Ok answer
  pub committed : (bar_in r.bus k i).address ≡ address
  pub ends : (bar_in r.bus k i).probing ≡ false

-- of a write whose candidate is a: moved there exactly if that is acceptable; "If not accepted, the address stays. The answer says which."
pub record Settled (b : Bus) (k i a : ℕ) (r : BusWriteDone) : Type 0 where
  pub moved : Acceptable b k i a → Told r k i (Moved i a) a
  pub kept : (Acceptable b k i a → ⊥) → Told r k i (Kept i (bar_in b k i).address) (bar_in b k i).address
  pub moved_only : (slot address : ℕ) → r.answer ≡ Ok (Moved slot address) → Acceptable b k i a
  pub kept_only : (slot address : ℕ) → r.answer ≡ Ok (Kept slot address) → Acceptable b k i a → ⊥
