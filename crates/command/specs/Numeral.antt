-- Numbers in a line (design of the console: "Numbers are hex without a prefix, widths and slots decimal").
use Rattle.std.specs.Prelude.{ℕ, ◌+◌, ◌*◌, ◌-◌, ◌^◌, ◌&&◌, cond, List, [], ◌∷◌, ltb, leb, Option, Some, None}

-- the value of a hex digit in ASCII, in either case; 16 where a byte is none
abbrev pub digit_of : ℕ → ℕ
digit_of c =
    cond (leb 48 c && leb c 57) (c - 48)
    (cond (leb 65 c && leb c 70) (c - 55)
    (cond (leb 97 c && leb c 102) (c - 87) 16))

-- the number that digits spell after those that spell v; none where one is no digit of the base, or where it takes more than 64 bits
unfoldable pub numeral_from : ℕ → ℕ → List ℕ → Option ℕ
numeral_from base v [] = Some v
numeral_from base v (c ∷ cs) =
    cond (ltb (digit_of c) base && ltb (v * base + digit_of c) (2 ^ 64)) (numeral_from base (v * base + digit_of c) cs) None

-- a number has a digit at least
unfoldable pub numeral_of : ℕ → List ℕ → Option ℕ
numeral_of base [] = None
numeral_of base (c ∷ cs) = numeral_from base 0 (c ∷ cs)
