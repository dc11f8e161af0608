-- A word is a number exactly if its bytes are digits, one at least, and what they spell takes 64 bits at most.
use Prim.Native.Nat.{ℕ, ◌+◌, ◌*◌, ◌^◌, ◌<◌, ◌≤◌}
use mathlib.Core.Bool.{Bool, true, false, ◌&&◌, cond}
use mathlib.Core.List.{List, [], ◌∷◌}
use mathlib.Core.Logic.{⊎_elim}
use mathlib.Core.Path.{◌≡◌, refl, sym, ◌∙◌}
use native.Mathlib.Nat.{le-mul_of_pos_right}
use native.Mathlib.Omega.{arith}
use borrow.Author.Tests.{ltb-true, lt-ltb}
use lib.Dec.{ltb}
use lib.ListN.{length}
use Rattle.word.proofs.Tests.{true_or_false, and_left, and_right}
use Rattle.std.specs.Prelude.{Some, None}
use Rattle.command.specs.Numeral.{digit_of, numeral_from, numeral_of}
use Rattle.command.specs.Spelt.{value_from, Digits, none, more, Spells}

module _ (base : ℕ) (some : 0 < base) where
  -- digits never make a number smaller
  pub value_grows : (v : ℕ) (w : List ℕ) → v ≤ value_from base v w
  unfolding value_from
  value_grows v [] = omega arith
  value_grows v (c ∷ cs) = omega (arith, le-mul_of_pos_right v some, value_grows (v * base + digit_of c) cs)

  -- digits that spell a number of 64 bits are that number
  pub numeral_there : (v : ℕ) (w : List ℕ) → Digits base w → value_from base v w < 2 ^ 64 → numeral_from base v w ≡ Some (value_from base v w)
  unfolding numeral_from value_from
  numeral_there v [] none h = refl
  numeral_there v (c ∷ cs) (more d ds) h =
      let t : ltb (digit_of c) base ≡ true = lt-ltb (digit_of c) base d in
      let u : ltb (v * base + digit_of c) (2 ^ 64) ≡ true = lt-ltb (v * base + digit_of c) (2 ^ 64) (omega (arith, value_grows (v * base + digit_of c) cs)) in
      rw (t, u) (numeral_there (v * base + digit_of c) cs ds h)

-- and nothing else is a number
module _ (base : ℕ) where
  numeral_step : (v c : ℕ) (cs : List ℕ) (t : Bool) → (ltb (digit_of c) base && ltb (v * base + digit_of c) (2 ^ 64)) ≡ t → numeral_from base v (c ∷ cs) ≡ cond t (numeral_from base (v * base + digit_of c) cs) None
  unfolding numeral_from
  numeral_step v c cs t e = rw e

  spells_more : (v c : ℕ) (cs : List ℕ) (value : ℕ) → digit_of c < base → Spells base (v * base + digit_of c) cs value → Spells base v (c ∷ cs) value
  unfolding value_from
  spells_more v c cs value d s = record { digits = more d s.digits; fits = s.fits; is = s.is }

  pub numeral_only : (v : ℕ) (w : List ℕ) (value : ℕ) → v < 2 ^ 64 → numeral_from base v w ≡ Some value → Spells base v w value
  unfolding numeral_from value_from
  numeral_only v [] value l g = record { digits = none; fits = l; is = cc }
  numeral_only v (c ∷ cs) value l g =
      let test : Bool = ltb (digit_of c) base && ltb (v * base + digit_of c) (2 ^ 64) in
      ⊎_elim (λ (t : test ≡ true).
      let d : digit_of c < base = ltb-true (digit_of c) base (and_left (ltb (digit_of c) base) (ltb (v * base + digit_of c) (2 ^ 64)) t) in
      let f : v * base + digit_of c < 2 ^ 64 = ltb-true (v * base + digit_of c) (2 ^ 64) (and_right (ltb (digit_of c) base) (ltb (v * base + digit_of c) (2 ^ 64)) t) in
      spells_more v c cs value d (numeral_only (v * base + digit_of c) cs value f (sym (numeral_step v c cs true t) ∙ g)))
      (λ (t : test ≡ false). let q : None ≡ Some value = sym (numeral_step v c cs false t) ∙ g in cc)
      (true_or_false test)

-- the whole word
pub number_there : (base : ℕ) → 0 < base → (w : List ℕ) → 0 < length w → Digits base w → value_from base 0 w < 2 ^ 64 → numeral_of base w ≡ Some (value_from base 0 w)
unfolding numeral_of
number_there base some [] h ds l = absurd (omega arith)
number_there base some (c ∷ cs) h ds l = numeral_there base some 0 (c ∷ cs) ds l

pub number_only : (base : ℕ) (w : List ℕ) (value : ℕ) → numeral_of base w ≡ Some value → (0 < length w) × Spells base 0 w value
unfolding numeral_of
number_only base [] value g = cc
number_only base (c ∷ cs) value g = (omega arith, numeral_only base 0 (c ∷ cs) value (omega arith) g)
