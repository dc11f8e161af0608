-- A list said by its elements: what stands at each index.
use Rattle.std.specs.Prelude.{ℕ, zero, suc, cond, List, [], ◌∷◌, ltb}

-- f 0, f 1, .. up to f (n - 1)
unfoldable pub table : {A : Type 0} → ℕ → (ℕ → A) → List A
table zero f = []
table (suc n) f = f 0 ∷ table n (λ k. f (suc k))

-- a list of n of which the first m are f's and the others blank
unfoldable pub filled : {A : Type 0} → ℕ → ℕ → (ℕ → A) → A → List A
filled n m f blank = table n (λ k. cond (ltb k m) (f k) blank)
