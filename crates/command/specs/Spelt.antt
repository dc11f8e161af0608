-- The number that digits spell, with no bound, and what is one of 64 bits: what `numeral_of` is held against (proofs/Spelling.antt).
use Rattle.std.specs.Prelude.{ℕ, ◌+◌, ◌*◌, ◌^◌, ◌<◌, List, [], ◌∷◌, ◌≡◌}
use Rattle.command.specs.Numeral.{digit_of}

-- after digits that spell v
unfoldable pub value_from : ℕ → ℕ → List ℕ → ℕ
value_from base v [] = v
value_from base v (c ∷ cs) = value_from base (v * base + digit_of c) cs

-- every byte is a digit of the base, which is 16 at most
pub data Digits (base : ℕ) : List ℕ → Type 0 where
  none : Digits base []
  more : {c : ℕ} {cs : List ℕ} → digit_of c < base → Digits base cs → Digits base (c ∷ cs)

-- the digits of a word, after those that spell v, spell a value that takes 64 bits at most
pub record Spells (base v : ℕ) (w : List ℕ) (value : ℕ) : Type 0 where
  pub digits : Digits base w
  pub fits : value_from base v w < 2 ^ 64
  pub is : value ≡ value_from base v w
