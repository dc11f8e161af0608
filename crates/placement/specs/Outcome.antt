-- What placement is to answer, said of the addresses and not of the way to them. proofs/Outcomes.antt shows that `placement_of` answers this and that nothing else would do.
use Rattle.std.specs.Prelude.{ℕ, ◌<◌, true, false, List, ◌≡◌, length, get_or, Ok, Err}
use Rattle.refusal.specs.declared.refusal.Refusal.{Refusal}
use Rattle.bar.specs.Range.{multiple, lies_in, meets}
use Rattle.bar.specs.Bar.{no_bar}
use Rattle.bar.specs.declared.range.Aperture.{Aperture}
use Rattle.bar.specs.declared.memory_bar.MemoryBar.{MemoryBar}
use Rattle.bar.specs.declared.memory_bar.Request.TheVariants.{Fixed}
use Rattle.placement.specs.Keys.{key_count, bars_of}
use Rattle.placement.specs.Order.{size_at, request_at, precedes, range_at, placed_before}
use Rattle.placement.specs.Answer.{Placement, refused_at}
use Rattle.placement.specs.Rule.{Given, Row}
use Rattle.placement.specs.declared.declared_bars.DeclaredBars.{DeclaredBars}

-- the BAR at a key has the address of the rule, given those placed before it
abbrev pub GivenAt : Aperture → List MemoryBar → List ℕ → ℕ → Type 0
GivenAt aperture bars addresses key = Given aperture (get_or bars key no_bar) (placed_before bars addresses key) (get_or addresses key 0)

-- accepted: every BAR has its address
pub record AllGiven (aperture : Aperture) (bars : List MemoryBar) (addresses : List ℕ) : Type 0 where
  pub long : length addresses ≡ key_count
  pub given : (key : ℕ) → key < key_count → GivenAt aperture bars addresses key

-- refused at a key: all that are placed before it can have their addresses, and this one is refused by a row
pub record FirstRefused (aperture : Aperture) (bars : List MemoryBar) (refusal : Refusal) (key : ℕ) : Type 0 where
  pub within : key < key_count
  pub addresses : List ℕ
  pub before : (k : ℕ) → k < key_count → precedes bars k key ≡ true → GivenAt aperture bars addresses k
  pub row : Row aperture (get_or bars key no_bar) (placed_before bars addresses key) refusal

-- the answer: one or the other
pub data Outcome (aperture : Aperture) (d : DeclaredBars) : Placement → Type 0 where
  all_given : (addresses : List ℕ) → AllGiven aperture (bars_of d) addresses → Outcome aperture d (Ok addresses)
  one_refused : (refusal : Refusal) (key : ℕ) → FirstRefused aperture (bars_of d) refusal key → Outcome aperture d (Err (refused_at d refusal key))

-- what the addresses of an accepted placement are at all keys at once: each BAR is aligned, in the aperture, apart from all others, and where it asked to be
pub record Resolved (aperture : Aperture) (bars : List MemoryBar) (addresses : List ℕ) : Type 0 where
  pub aligned : (k : ℕ) → k < key_count → 0 < size_at bars k → multiple (range_at bars addresses k) ≡ true
  pub within : (k : ℕ) → k < key_count → 0 < size_at bars k → lies_in aperture (range_at bars addresses k) ≡ true
  pub apart : (j k : ℕ) → j < key_count → k < key_count → (j ≡ k → ⊥) → meets (range_at bars addresses j) (range_at bars addresses k) ≡ false
  pub fixed : (k a : ℕ) → k < key_count → request_at bars k ≡ Fixed a → get_or addresses k 0 ≡ a
