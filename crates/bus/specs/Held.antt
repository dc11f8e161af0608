-- What memory lookup answers, said by the BARs that hold the access. proofs/LookupExact.antt shows that `lookup_of` is this.
use Rattle.std.specs.Prelude.{ℕ, ◌+◌, ◌-◌, ◌<◌, ◌≤◌, true, false, ◌≡◌, Option, None, Result, Ok, Err}
use Rattle.word.specs.Width.{width_ok}
use Rattle.address.specs.Layout.{bar_count}
use Rattle.bar.specs.Range.{end_of}
use Rattle.bar.specs.State.{range_of}
use Rattle.bus.specs.Bus.{count_on, device_at, function_at, bar_in}
use Rattle.bus.specs.Lookup.{most_lookup, decodes, hit_of}
use Rattle.bus.specs.declared.state.Bus.{Bus}
use Rattle.bus.specs.declared.memory_lookup.Hit.{Hit}
use Rattle.refusal.specs.declared.refusal.Refusal.{Refusal}
use Rattle.refusal.specs.declared.refusal.Refusal.TheVariants.{BadAccess}

-- that BAR holds the access: the function is there and decodes, and the whole access lies in the committed range
pub record Held (b : Bus) (address width k i : ℕ) : Type 0 where
  pub there : k < count_on b
  pub slot : i < bar_count
  pub decoding : decodes (function_at b k) ≡ true
  pub from : (bar_in b k i).address ≤ address
  pub to : address + width ≤ end_of (range_of (bar_in b k i))

-- a hit is of a BAR that holds the access, a miss says that none does, and 18 answers every other width
pub data Looked (b : Bus) (address width : ℕ) : Result (Option Hit) Refusal → Type 0 where
  hit : width_ok most_lookup width ≡ true → (k i : ℕ) → Held b address width k i → Looked b address width (Ok (hit_of (device_at b k) i (address - (bar_in b k i).address)))
  miss : width_ok most_lookup width ≡ true → ((k i : ℕ) → Held b address width k i → ⊥) → Looked b address width (Ok None)
  bad_width : width_ok most_lookup width ≡ false → Looked b address width (Err BadAccess)
