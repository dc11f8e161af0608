-- Digits that a loop writes from the last to the first, and how many a decimal number has.
use Prim.Native.Nat.{ℕ, zero, suc, ◌+◌, ◌-◌, ◌/◌, ◌%◌, ◌^◌, ◌<◌, ◌≤◌}
use mathlib.Core.Bool.{Bool, true, false}
use mathlib.Core.List.{List, [], ◌∷◌, ◌++◌, append-nil}
use mathlib.Core.Logic.{⊎_elim}
use mathlib.Core.Path.{◌≡◌, refl, sym, ap, ◌∙◌}
use native.Mathlib.Nat.{pow-le-pow_right}
use native.Mathlib.Omega.{arith}
use borrow.Author.Tests.{lt-ltb, le-ltb}
use lib.Dec.{ltb}
use lib.ListN.{length, get_or, take, drop, set, length-set, take-append-drop, drop_of_length-le}
use lib.Seq.{length-take-le, take-take, take-set-lt, drop-set-lt, drop-cons, get_or-set_same, append_snoc}
use Rattle.io.specs.Digits.{hex_digit_ascii, last_digits, IsDigitCount}
use Rattle.word.proofs.Tests.{below_or_not}
use Rattle.word.proofs.Searches.{least_at}
use Rattle.text.specs.Numeral.{hex_of, decimal_room, decimal_length}

-- the digits in order
abbrev pub hex_digits : List ℕ
hex_digits = 48 ∷ 49 ∷ 50 ∷ 51 ∷ 52 ∷ 53 ∷ 54 ∷ 55 ∷ 56 ∷ 57 ∷ 97 ∷ 98 ∷ 99 ∷ 100 ∷ 101 ∷ 102 ∷ []

pub digit_table : (d : ℕ) → d < 16 → get_or hex_digits d 0 ≡ hex_digit_ascii d
digit_table zero h = refl
digit_table (suc zero) h = refl
digit_table (suc (suc zero)) h = refl
digit_table (suc (suc (suc zero))) h = refl
digit_table (suc (suc (suc (suc zero)))) h = refl
digit_table (suc (suc (suc (suc (suc zero))))) h = refl
digit_table (suc (suc (suc (suc (suc (suc zero)))))) h = refl
digit_table (suc (suc (suc (suc (suc (suc (suc zero))))))) h = refl
digit_table (suc (suc (suc (suc (suc (suc (suc (suc zero)))))))) h = refl
digit_table (suc (suc (suc (suc (suc (suc (suc (suc (suc zero))))))))) h = refl
digit_table (suc (suc (suc (suc (suc (suc (suc (suc (suc (suc zero)))))))))) h = refl
digit_table (suc (suc (suc (suc (suc (suc (suc (suc (suc (suc (suc zero))))))))))) h = refl
digit_table (suc (suc (suc (suc (suc (suc (suc (suc (suc (suc (suc (suc zero)))))))))))) h = refl
digit_table (suc (suc (suc (suc (suc (suc (suc (suc (suc (suc (suc (suc (suc zero))))))))))))) h = refl
digit_table (suc (suc (suc (suc (suc (suc (suc (suc (suc (suc (suc (suc (suc (suc zero)))))))))))))) h = refl
digit_table (suc (suc (suc (suc (suc (suc (suc (suc (suc (suc (suc (suc (suc (suc (suc zero))))))))))))))) h = refl
digit_table (suc (suc (suc (suc (suc (suc (suc (suc (suc (suc (suc (suc (suc (suc (suc (suc d)))))))))))))))) h = absurd (omega arith)

module _ (text : List ℕ) (at end : ℕ) (room : end ≤ length text) where
  -- before the first digit nothing is written of the whole
  pub digits_none : (count value : ℕ) → end ≡ at + count → last_digits 16 (end - at) value ++ drop end (take end text) ≡ hex_of count value
  unfolding hex_of
  digits_none count value e =
      let n : end - at ≡ count = omega arith in
      rw (drop_of_length-le (take end text) {i = end} (omega (arith, length-take-le end text room)), n, append-nil)

  written : (j g : ℕ) → j < end → drop j (take end (set text j g)) ≡ g ∷ drop (suc j) (take end text)
  written j g h =
      let l : j < length (take end text) = omega (arith, length-take-le end text room) in
      let s : j < length (set (take end text) j g) = rw (length-set (take end text) j g) l in
      rw (take-set-lt end text j g h, drop-cons (set (take end text) j g) j 0 s, get_or-set_same (take end text) j g 0 l, drop-set-lt (suc j) (take end text) j g (omega arith))

  -- one more digit, in front of those that stand: what is left of the number spells the rest
  pub digits_more : (i j rest g : ℕ) → at ≤ j → i ≡ j + 1 → i ≤ end → g ≡ hex_digit_ascii (rest % 16) →
      last_digits 16 (j - at) (rest / 16) ++ drop j (take end (set text j g)) ≡ last_digits 16 (i - at) rest ++ drop i (take end text)
  digits_more i j rest g h e l d =
      let n : i - at ≡ suc (j - at) = omega arith in
      let m : i ≡ suc j = omega arith in
      rw (written j g (omega arith), n, m, d) (sym (append_snoc (last_digits 16 (j - at) (rest / 16)) (hex_digit_ascii (rest % 16)) (drop (suc j) (take end text))))

  -- after the last one they stand behind what was there
  pub digits_all : (front xs : List ℕ) → at ≤ end → take at text ≡ front → drop at (take end text) ≡ xs → take end text ≡ front ++ xs
  digits_all front xs h e f = sym (take-append-drop at (take end text)) ∙ rw (f, take-take at end text h, e)

-- a 64-bit number takes twenty digits at most
pub decimal_few : (n r : ℕ) → IsDigitCount 10 1 n r → n < 2 ^ 64 → r ≤ decimal_room
decimal_few n r f h =
    ⊎_elim (λ (l : r < 21). omega arith) (λ (l : 21 ≤ r).
    let b : 10 ^ 20 ≤ 10 ^ (r - 1) = pow-le-pow_right {n = 10} (omega arith) {i = 20} {j = r - 1} (omega arith) in
    let g = f.2 (omega arith) in
    absurd (omega arith))
    (below_or_not r 21)

-- the fewest digits that hold a number are as many as the definition says
pub decimal_places : (n r : ℕ) → IsDigitCount 10 1 n r → n < 2 ^ 64 → r ≡ decimal_length n
unfolding decimal_length
decimal_places n r f h =
    let p : ℕ → Bool = λ k. ltb n (10 ^ (1 + k)) in
    let few = decimal_few n r f h in
    let e : 1 + (r - 1) ≡ r = omega (arith, f.0) in
    let here : p (r - 1) ≡ true = lt-ltb n (10 ^ (1 + (r - 1))) (rw e f.1) in
    let none : (b : ℕ) → b < r - 1 → p b ≡ false = λ b l. le-ltb n (10 ^ (1 + b)) (omega (arith, f.2 (omega arith), pow-le-pow_right {n = 10} (omega arith) {i = 1 + b} {j = r - 1} (omega arith))) in
    sym (ap (λ (k : ℕ). 1 + k) (least_at p decimal_room (r - 1) (omega arith) here none) ∙ e)
