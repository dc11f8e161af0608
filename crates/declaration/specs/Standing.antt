-- What stands declared so far, as the rows of the table ask for it.
use Rattle.std.specs.Prelude.{ℕ, Bool, is_some, ◌||◌, ltb, eqb, get_or}
use Rattle.word.specs.Search.{any_below}
use Rattle.bar.specs.Bar.{no_bar}
use Rattle.config.specs.declared.function.Function.{Function}
use Rattle.declaration.specs.declared.so_far.SoFar.{SoFar}

-- whether there is a latest function, whether it has a capability, an INTx
abbrev pub has_function : SoFar → Bool
has_function s = ltb 0 s.count

abbrev pub has_capability : SoFar → Bool
has_capability s = ltb 0 s.function.capabilities.count

abbrev pub has_intx : SoFar → Bool
has_intx s = is_some s.function.contents.intx

-- whether a slot of a function has a BAR, and whether a device is declared
abbrev pub slot_used : Function → ℕ → Bool
slot_used f k = ltb 0 (get_or f.bars k no_bar).size

unfoldable pub device_used : SoFar → ℕ → Bool
device_used s d = any_below (λ k. eqb (get_or s.devices k 0) d) s.count

-- the highest device number
abbrev pub most_device : ℕ
most_device = 31

-- "device above 31 or declared twice"
abbrev pub device_bad : SoFar → ℕ → Bool
device_bad s d = ltb most_device d || device_used s d
