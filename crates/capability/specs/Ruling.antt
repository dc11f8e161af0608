-- When the layout gives which answer, in the words of document 01's table: the laws of proofs/Rulings.antt and proofs/NoLayouts.antt show that an answer is given exactly if its ruling holds.
use Rattle.std.specs.Prelude.{Result, Ok, Err, ℕ, suc, ◌<◌, true, false, ◌≡◌}
use Rattle.capability.specs.Declaration.{count_of, length_at}
use Rattle.capability.specs.Repeat.{repeats_at}
use Rattle.capability.specs.Layout.{repeated_at, past_at}
use Rattle.capability.specs.Arranged.{Fit}
use Rattle.capability.specs.declared.declared.Capabilities.{Capabilities}
use Rattle.capability.specs.declared.layout.LayoutRefusal.{LayoutRefusal}

-- none of the first n capabilities repeats an effect id
abbrev pub Distinct : Capabilities → ℕ → Type 0
Distinct d n = (j : ℕ) → j < n → repeats_at d j ≡ false

-- all of them fit and no id is repeated; or capability k is the first that repeats one, and those before it fit; or no id is repeated up to k, those before it fit, and with it they have no layout that ends in the space
pub data Ruling (space : ℕ) (d : Capabilities) : Result (Unit {0}) LayoutRefusal → Type 0 where
  placed : Distinct d (count_of d) → Fit space (length_at d) (count_of d) → Ruling space d (Ok tt)
  repeated : (k : ℕ) → k < count_of d → Distinct d k → Fit space (length_at d) k → repeats_at d k ≡ true → Ruling space d (Err (repeated_at k))
  past : (k : ℕ) → k < count_of d → Distinct d (suc k) → Fit space (length_at d) k → (Fit space (length_at d) (suc k) → ⊥) → Ruling space d (Err (past_at k))

-- 13 is given at all exactly if some capability has no layout with those before it, and no id is repeated up to it
pub record NoLayout (space : ℕ) (d : Capabilities) : Type 0 where
  pub index : ℕ
  pub below : index < count_of d
  pub distinct : Distinct d (suc index)
  pub none : Fit space (length_at d) (suc index) → ⊥

-- and 12 exactly if some capability repeats an id and those before it have a layout
pub record Again (space : ℕ) (d : Capabilities) : Type 0 where
  pub index : ℕ
  pub below : index < count_of d
  pub repeat : repeats_at d index ≡ true
  pub before : Fit space (length_at d) index
