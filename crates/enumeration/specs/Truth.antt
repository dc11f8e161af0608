-- Demand 3. "On a bus from an accepted file, after any accesses and resets, if no BAR of the declared function is showing its size, the enumeration of document 01 reports the declared identity, pin, slots, sizes, capability ids and offsets, and the addresses that memory lookup uses, and leaves those addresses as they were. So two functions with equal reports agree in all of these. A 4 GiB BAR counts as an empty slot."
-- proofs/Demand.antt proves `Demand` and what goes with it: `Agreement`, `Absence`, `Restoration`, `Enumerations`, `OnlyAnswer`.
use Rattle.std.specs.Prelude.{ℕ, ◌+◌, ◌-◌, ◌<◌, ◌≤◌, Bool, true, false, ◌||◌, cond, List, [], ◌∷◌, ◌++◌, ◌≡◌, eqb, get_or, is_ok, Option, None, Result, Ok}
use Rattle.word.specs.Table.{table}
use Rattle.word.specs.Width.{width_ok}
use Rattle.address.specs.Layout.{bar_count}
use Rattle.address.specs.Limits.{limits}
use Rattle.bar.specs.Bar.{no_bar}
use Rattle.bar.specs.Range.{four_gib}
use Rattle.capability.specs.Declaration.{declared_capability, length_at}
use Rattle.capability.specs.Offset.{offset_at}
use Rattle.config.specs.PowerOn.{pin_of}
use Rattle.config.specs.State.{bar_at}
use Rattle.config.specs.declared.function.Function.{Function}
use Rattle.config.specs.declared.state.FunctionState.{FunctionState}
use Rattle.declaration.specs.Good.{Bytes}
use Rattle.declaration.specs.declared.answer.Declaration.{Declaration}
use Rattle.bus.specs.Bus.{function_at, key_of}
use Rattle.bus.specs.Held.{Looked}
use Rattle.bus.specs.Lookup.{most_lookup, decodes, hit_of, lookup_of}
use Rattle.bus.specs.Outcome.{declaration_of}
use Rattle.bus.specs.Start.{declared_function, addresses_in, bus_given, start_of}
use Rattle.bus.specs.declared.memory_lookup.Hit.{Hit}
use Rattle.refusal.specs.declared.refusal.Refusal.{Refusal}
use Rattle.bus.specs.declared.state.Bus.{Bus}
use Rattle.enumeration.specs.Enumerate.{empty_slot, report_with, absent_report, enumerate_of}
use Rattle.enumeration.specs.History.{History, resets, ran}
use Rattle.enumeration.specs.declared.report.Listed.{Listed}
use Rattle.enumeration.specs.declared.report.Report.{Report}
use Rattle.enumeration.specs.declared.report.SlotReport.{SlotReport}

-- an accepted file
pub record Accepted (file : List ℕ) : Type 0 where
  pub bytes : Bytes file
  pub answer : is_ok (start_of limits file) ≡ true

-- what it declares, and the bus that it starts
abbrev pub declared : List ℕ → Declaration
declared file = declaration_of limits file

abbrev pub started : List ℕ → Bus
started file = bus_given (start_of limits file)

-- the BAR in a slot as it is reported: its declared size at the address where it is. "A 4 GiB BAR counts as an empty slot."
abbrev pub slot_report : ℕ → ℕ → SlotReport
slot_report size address = cond (eqb size 0 || eqb size four_gib) empty_slot (record { size = size; address = address })

abbrev pub size_in : Function → ℕ → ℕ
size_in f i = (get_or f.bars i no_bar).size

abbrev pub address_in : FunctionState → ℕ → ℕ
address_in s i = (bar_at s.bars i).address

abbrev pub declared_slots : Function → FunctionState → List SlotReport
declared_slots f s = table bar_count (λ i. slot_report (size_in f i) (address_in s i))

-- the capabilities in order: "Capabilities start at 0x40, each at the next multiple of 4 after the one before"
abbrev pub declared_listed : Function → ℕ → Listed
declared_listed f i = record { offset = offset_at (length_at f.capabilities) i; id = (declared_capability f.capabilities i).id }

abbrev pub declared_list : Function → List Listed
declared_list f = table f.capabilities.count (declared_listed f)

-- the true report of a declared function whose BARs are where its state has them
abbrev pub declared_report : Function → FunctionState → Report
declared_report f s = report_with f.contents.identity (pin_of f.contents.intx) (declared_slots f s) (declared_list f)

-- what a report says of a slot
abbrev pub slot_in : Report → ℕ → SlotReport
slot_in r i = get_or r.slots i empty_slot

-- no BAR is showing its size
abbrev pub Quiet : FunctionState → Type 0
Quiet s = (i : ℕ) → i < bar_count → 0 < (bar_at s.bars i).plan.size → (bar_at s.bars i).probing ≡ false

-- "the addresses that memory lookup uses": every whole access in a slot as it is reported is answered with that slot and the offset from the reported address, exactly if command bit 1 is set
abbrev pub Used : Bus → Bool → ℕ → ℕ → SlotReport → Type 0
Used b decoding device i r = (x w : ℕ) → width_ok most_lookup w ≡ true → r.address ≤ x → x + w ≤ r.address + r.size → lookup_of b x w ≡ Ok (cond decoding (hit_of device i (x - r.address)) None)

-- and no others: an access that is answered with that device and slot lies whole in the slot as it is reported, at the offset from the reported address. A 4 GiB BAR, whose slot is reported as empty, is left out
pub record LiesIn (r : SlotReport) (x w o : ℕ) : Type 0 where
  pub from : r.address ≤ x
  pub to : x + w ≤ r.address + r.size
  pub offset : o ≡ x - r.address

abbrev pub UsedOnly : Bus → ℕ → ℕ → SlotReport → Type 0
UsedOnly b device i r = (x w o : ℕ) → lookup_of b x w ≡ Ok (hit_of device i o) → LiesIn r x w o

-- the truth about the function at index k, in device order, on a bus
pub record Truth (d : Declaration) (b : Bus) (k : ℕ) : Type 0 where
  pub report : (enumerate_of b (declared_function d k).device).report ≡ declared_report (declared_function d k) (function_at b k)
  pub leaves : (enumerate_of b (declared_function d k).device).bus ≡ b
  pub uses : (i : ℕ) → i < bar_count → Used b (decodes (function_at b k)) (declared_function d k).device i (slot_in (enumerate_of b (declared_function d k).device).report i)
  pub only : (i : ℕ) → (size_in (declared_function d k) i ≡ four_gib → ⊥) → UsedOnly b (declared_function d k).device i (slot_in (enumerate_of b (declared_function d k).device).report i)

-- the demand
abbrev pub Demand : Type 0
Demand = (file : List ℕ) → Accepted file → (h : History) (k : ℕ) → k < (declared file).count → Quiet (function_at (ran (started file) h) k) → Truth (declared file) (ran (started file) h) k

-- "So two functions with equal reports agree in all of these": of any two files, after any two histories. A size of 0 is an empty slot
abbrev pub reported_size : Function → ℕ → ℕ
reported_size f i = (slot_report (size_in f i) 0).size

pub record Agree (f : Function) (s : FunctionState) (g : Function) (t : FunctionState) : Type 0 where
  pub identity : f.contents.identity ≡ g.contents.identity
  pub pin : pin_of f.contents.intx ≡ pin_of g.contents.intx
  pub sizes : (i : ℕ) → i < bar_count → reported_size f i ≡ reported_size g i
  pub addresses : (i : ℕ) → i < bar_count → 0 < reported_size f i → address_in s i ≡ address_in t i
  pub count : f.capabilities.count ≡ g.capabilities.count
  pub list : (i : ℕ) → i < f.capabilities.count → declared_listed f i ≡ declared_listed g i

abbrev pub Agreement : Type 0
Agreement = (file other : List ℕ) → Accepted file → Accepted other → (h g : History) (k j : ℕ) → k < (declared file).count → j < (declared other).count → Quiet (function_at (ran (started file) h) k) → Quiet (function_at (ran (started other) g) j) → (enumerate_of (ran (started file) h) (declared_function (declared file) k).device).report ≡ (enumerate_of (ran (started other) g) (declared_function (declared other) j).device).report → Agree (declared_function (declared file) k) (function_at (ran (started file) h) k) (declared_function (declared other) j) (function_at (ran (started other) g) j)

-- an undeclared device is absent after every history
abbrev pub Absent : Declaration → Bus → ℕ → Type 0
Absent d b device = ((k : ℕ) → k < d.count → (declared_function d k).device ≡ device → ⊥) → enumerate_of b device ≡ record { report = absent_report; bus = b }

abbrev pub Absence : Type 0
Absence = (file : List ℕ) → Accepted file → (h : History) (device : ℕ) → Absent (declared file) (ran (started file) h) device

-- after a reset with no later access every BAR is where placement put it, and the report is that of the start
pub record AsPlaced (file : List ℕ) (h : History) (k : ℕ) : Type 0 where
  pub address : (i : ℕ) → i < bar_count → address_in (function_at (ran (started file) (h ++ (resets ∷ []))) k) i ≡ get_or (addresses_in (declared file)) (key_of k i) 0
  pub report : (enumerate_of (ran (started file) (h ++ (resets ∷ []))) (declared_function (declared file) k).device).report ≡ (enumerate_of (started file) (declared_function (declared file) k).device).report

abbrev pub Restoration : Type 0
Restoration = (file : List ℕ) → Accepted file → (h : History) (k : ℕ) → k < (declared file).count → AsPlaced file h k

-- "any accesses" are also those of enumerations: on any bus, the bus after one is the bus after a history
abbrev pub Enumerations : Type 0
Enumerations = (b : Bus) (device : ℕ) → (h : History) × ((enumerate_of b device).bus ≡ ran b h)

-- memory lookup after any history has one answer: what is so of the BARs (`Looked`) is what it answers
abbrev pub OnlyAnswer : Type 0
OnlyAnswer = (file : List ℕ) → Accepted file → (h : History) (address width : ℕ) (r : Result (Option Hit) Refusal) → Looked (ran (started file) h) address width r → lookup_of (ran (started file) h) address width ≡ r
