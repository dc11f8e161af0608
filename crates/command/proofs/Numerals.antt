-- Digits by their ranges, and a number that a loop reads digit by digit.
use Prim.Native.Nat.{ℕ, ◌+◌, ◌*◌, ◌-◌, ◌^◌, ◌<◌, ◌≤◌}
use mathlib.Core.Bool.{true, false}
use mathlib.Core.List.{List, [], ◌∷◌}
use mathlib.Core.Logic.{◌⊎◌, inl, inr, ⊎_elim}
use mathlib.Core.Path.{◌≡◌, refl, ◌∙◌, sym}
use native.Mathlib.Numerals.{add-one}
use native.Mathlib.Omega.{arith}
use borrow.Author.Tests.{lt-ltb, le-ltb, le-leb, lt-leb}
use lib.Dec.{ltb}
use lib.ListN.{length, get_or, drop, drop_of_length-le}
use lib.Seq.{drop-cons}
use Rattle.word.proofs.Tests.{below_or_not}
use Rattle.std.specs.Prelude.{Option, Some, None, SomeIff}
use Rattle.std.specs.Char.{digit_value}
use Rattle.command.specs.Numeral.{digit_of, numeral_from, numeral_of}

module _ (c : ℕ) where
  -- below, between and above the three ranges
  pub digit_none : (c < 48) → digit_of c ≡ 16
  digit_none h =
      let a = lt-leb 48 c (omega arith) in
      let b = lt-leb 65 c (omega arith) in
      let d = lt-leb 97 c (omega arith) in
      rw (a, b, d)

  pub digit_between : 57 < c → c < 65 → digit_of c ≡ 16
  digit_between h l =
      let a = le-leb 48 c (omega arith) in
      let e = lt-leb c 57 (omega arith) in
      let b = lt-leb 65 c (omega arith) in
      let d = lt-leb 97 c (omega arith) in
      rw (a, e, b, d)

  pub digit_past : 70 < c → c < 97 → digit_of c ≡ 16
  digit_past h l =
      let a = le-leb 48 c (omega arith) in
      let e = lt-leb c 57 (omega arith) in
      let b = le-leb 65 c (omega arith) in
      let f = lt-leb c 70 (omega arith) in
      let d = lt-leb 97 c (omega arith) in
      rw (a, e, b, f, d)

  pub digit_above : 102 < c → digit_of c ≡ 16
  digit_above h =
      let a = le-leb 48 c (omega arith) in
      let e = lt-leb c 57 (omega arith) in
      let b = le-leb 65 c (omega arith) in
      let f = lt-leb c 70 (omega arith) in
      let d = le-leb 97 c (omega arith) in
      let g = lt-leb c 102 (omega arith) in
      rw (a, e, b, f, d, g)

  -- in each of them
  pub digit_decimal : 48 ≤ c → c ≤ 57 → digit_of c ≡ c - 48
  digit_decimal h l = rw (le-leb 48 c h, le-leb c 57 l)

  pub digit_upper : 65 ≤ c → c ≤ 70 → digit_of c ≡ c - 65 + 10
  digit_upper h l =
      let a = le-leb 48 c (omega arith) in
      let e = lt-leb c 57 (omega arith) in
      rw (a, e, le-leb 65 c h, le-leb c 70 l) (omega arith)

  pub digit_lower : 97 ≤ c → c ≤ 102 → digit_of c ≡ c - 97 + 10
  digit_lower h l =
      let a = le-leb 48 c (omega arith) in
      let e = lt-leb c 57 (omega arith) in
      let b = le-leb 65 c (omega arith) in
      let f = lt-leb c 70 (omega arith) in
      rw (a, e, b, f, le-leb 97 c h, le-leb c 102 l) (omega arith)

  -- the same ranges of std's digits, which go on to 36
  value_none : c < 48 → digit_value c ≡ 36
  value_none h = rw (lt-ltb c 48 h)

  value_decimal : 48 ≤ c → c < 58 → digit_value c ≡ c - 48
  value_decimal h l = rw (le-ltb c 48 h, lt-ltb c 58 l)

  value_between : 58 ≤ c → c < 65 → digit_value c ≡ 36
  value_between h l =
      let a = le-ltb c 48 (omega arith) in
      rw (a, le-ltb c 58 h, lt-ltb c 65 l)

  value_upper : 65 ≤ c → c < 91 → digit_value c ≡ c - 55
  value_upper h l =
      let a = le-ltb c 48 (omega arith) in
      let b = le-ltb c 58 (omega arith) in
      rw (a, b, le-ltb c 65 h, lt-ltb c 91 l)

  value_between_cases : 91 ≤ c → c < 97 → digit_value c ≡ 36
  value_between_cases h l =
      let a = le-ltb c 48 (omega arith) in
      let b = le-ltb c 58 (omega arith) in
      let d = le-ltb c 65 (omega arith) in
      rw (a, b, d, le-ltb c 91 h, lt-ltb c 97 l)

  value_lower : 97 ≤ c → c < 123 → digit_value c ≡ c - 87
  value_lower h l =
      let a = le-ltb c 48 (omega arith) in
      let b = le-ltb c 58 (omega arith) in
      let d = le-ltb c 65 (omega arith) in
      let e = le-ltb c 91 (omega arith) in
      rw (a, b, d, e, le-ltb c 97 h, lt-ltb c 123 l)

  value_last : 123 ≤ c → digit_value c ≡ 36
  value_last h =
      let a = le-ltb c 48 (omega arith) in
      let b = le-ltb c 58 (omega arith) in
      let d = le-ltb c 65 (omega arith) in
      let e = le-ltb c 91 (omega arith) in
      let f = le-ltb c 97 (omega arith) in
      rw (a, b, d, e, f, le-ltb c 123 h)

  value_past : 71 ≤ c → c < 97 → 16 ≤ digit_value c
  value_past h l =
      ⊎_elim (λ (m : c < 91). omega (arith, value_upper (omega arith) m)) (λ (m : 91 ≤ c). omega (arith, value_between_cases m l)) (below_or_not c 91)

  value_above : 103 ≤ c → 16 ≤ digit_value c
  value_above h =
      ⊎_elim (λ (m : c < 123). omega (arith, value_lower (omega arith) m)) (λ (m : 123 ≤ c). omega (arith, value_last m)) (below_or_not c 123)

  -- as std says it, where a number is that of a digit of base 16
  pub digit_std : (digit_of c ≡ digit_value c) ⊎ ((16 ≤ digit_of c) × (16 ≤ digit_value c))
  digit_std =
      ⊎_elim (λ (h : c < 48). inr (omega (arith, digit_none h), omega (arith, value_none h)))
      (λ (h : 48 ≤ c).
      ⊎_elim (λ (l : c < 58). inl (digit_decimal h (omega arith) ∙ sym (value_decimal h l)))
      (λ (l : 58 ≤ c).
      ⊎_elim (λ (m : c < 65). inr (omega (arith, digit_between (omega arith) m), omega (arith, value_between l m)))
      (λ (m : 65 ≤ c).
      ⊎_elim (λ (n : c < 71). inl (digit_upper m (omega arith) ∙ omega (arith, value_upper m (omega arith))))
      (λ (n : 71 ≤ c).
      ⊎_elim (λ (o : c < 97). inr (omega (arith, digit_past (omega arith) o), value_past n o))
      (λ (o : 97 ≤ c).
      ⊎_elim (λ (p : c < 103). inl (digit_lower o (omega arith) ∙ omega (arith, value_lower o (omega arith)))) (λ (p : 103 ≤ c). inr (omega (arith, digit_above (omega arith)), value_above p)) (below_or_not c 103))
      (below_or_not c 97))
      (below_or_not c 71))
      (below_or_not c 65))
      (below_or_not c 58))
      (below_or_not c 48)

-- what std answers of a byte in a base of 16 at most
module _ (base c : ℕ) (hex : base ≤ 16) where
  pub digit_some : (r : Option ℕ) (d : ℕ) → SomeIff r (digit_value c < base) (digit_value c) → r ≡ Some d → (d ≡ digit_of c) × (d < base)
  digit_some None d s e = cc
  digit_some (Some x) d s e = let q : x ≡ d = cc in ⊎_elim (λ (z : digit_of c ≡ digit_value c). (omega (arith, s.1), omega (arith, s.0, s.1))) (λ z. absurd (omega (arith, z.1, s.0))) (digit_std c)

  pub digit_nothing : (r : Option ℕ) → SomeIff r (digit_value c < base) (digit_value c) → r ≡ None → base ≤ digit_of c
  digit_nothing (Some x) s e = cc
  digit_nothing None s e =
      ⊎_elim (λ (z : digit_of c ≡ digit_value c). ⊎_elim (λ (l : digit_value c < base). absurd (s l)) (λ (l : base ≤ digit_value c). omega arith) (below_or_not (digit_value c) base)) (λ z. omega (arith, z.0)) (digit_std c)

module _ (base : ℕ) (word : List ℕ) where
  by_first : (w : List ℕ) → 0 < length w → numeral_from base 0 w ≡ numeral_of base w
  unfolding numeral_of
  by_first [] h = absurd (omega arith)
  by_first (c ∷ cs) h = refl

  by_none : (w : List ℕ) → length w ≡ 0 → None ≡ numeral_of base w
  unfolding numeral_of
  by_none [] h = refl
  by_none (c ∷ cs) h = absurd (omega arith)

  -- no digit at all, and before the first
  pub numeral_none : length word ≡ 0 → None ≡ numeral_of base word
  numeral_none h = by_none word h

  pub numeral_start : 0 < length word → numeral_from base 0 (drop 0 word) ≡ numeral_of base word
  numeral_start h = by_first word h

  -- after the last digit
  pub numeral_end : (i v : ℕ) → length word ≤ i → numeral_from base v (drop i word) ≡ Some v
  unfolding numeral_from
  numeral_end i v h = rw (drop_of_length-le word {i = i} h)

  module _ (i v d : ℕ) (inside : i < length word) (is : d ≡ digit_of (get_or word i 0)) where
    -- a byte that is no digit of the base, one digit too many, and one more
    pub numeral_bad : base ≤ d → numeral_from base v (drop i word) ≡ None
    unfolding numeral_from
    numeral_bad h = let t : ltb (digit_of (get_or word i 0)) base ≡ false = le-ltb _ base (rw is at h) in rw (drop-cons word i 0 inside, t)

    pub numeral_large : d < base → 2 ^ 64 ≤ v * base + d → numeral_from base v (drop i word) ≡ None
    unfolding numeral_from
    numeral_large l h =
        let t : ltb (digit_of (get_or word i 0)) base ≡ true = lt-ltb _ base (rw is at l) in
        let u : ltb (v * base + digit_of (get_or word i 0)) (2 ^ 64) ≡ false = le-ltb _ (2 ^ 64) (rw is at h) in
        rw (drop-cons word i 0 inside, t, u)

    pub numeral_more : d < base → v * base + d < 2 ^ 64 → numeral_from base v (drop i word) ≡ numeral_from base (v * base + d) (drop (i + 1) word)
    unfolding numeral_from
    numeral_more l h =
        let t : ltb (digit_of (get_or word i 0)) base ≡ true = lt-ltb _ base (rw is at l) in
        let u : ltb (v * base + digit_of (get_or word i 0)) (2 ^ 64) ≡ true = lt-ltb _ (2 ^ 64) (rw is at h) in
        rw (drop-cons word i 0 inside, t, u, add-one, is)
