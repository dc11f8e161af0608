-- The order of placing: of two BARs one is placed before the other, and none before itself, so that what holds of a BAR once it holds of all before it holds of every one.
use Prim.Native.Nat.{ℕ, zero, suc, ◌<◌, ◌≤◌}
use mathlib.Core.Bool.{Bool, true, false, ◌&&◌}
use mathlib.Core.List.{List}
use mathlib.Core.Logic.{◌⊎◌, inl, inr, ⊎_elim}
use mathlib.Core.Path.{◌≡◌, refl, ◌∙◌}
use native.Mathlib.Omega.{arith}
use borrow.Author.Tests.{lt-ltb, le-ltb, ltb-true, eq-eqb, eqb-true}
use lib.Dec.{ltb, eqb}
use Rattle.word.proofs.Tests.{below_or_not, both, never, and_left, and_right, or_cases}
use Rattle.bar.specs.declared.memory_bar.MemoryBar.{MemoryBar}
use Rattle.bar.specs.declared.memory_bar.Request.{Request}
use Rattle.bar.specs.declared.memory_bar.Request.TheVariants.{Auto, Fixed}
use Rattle.placement.specs.Keys.{key_count}
use Rattle.placement.specs.Order.{size_at, request_at, comes_before, ordered, precedes}
use Rattle.placement.proofs.Counts.{counted, counted_less}

module _ (bars : List MemoryBar) where
  -- larger, or as large with a lower key
  pub before_is : (x y : ℕ) → comes_before bars x y ≡ true → (size_at bars y < size_at bars x) ⊎ ((size_at bars x ≡ size_at bars y) × (x < y))
  unfolding comes_before
  before_is x y e =
      let s = eqb (size_at bars x) (size_at bars y) in
      ⊎_elim (λ a. inl (ltb-true (size_at bars y) (size_at bars x) a)) (λ a. inr (eqb-true (size_at bars x) (size_at bars y) (and_left s (ltb x y) a), ltb-true x y (and_right s (ltb x y) a))) (or_cases (ltb (size_at bars y) (size_at bars x)) (s && ltb x y) e)

  pub larger_before : (x y : ℕ) → size_at bars y < size_at bars x → comes_before bars x y ≡ true
  unfolding comes_before
  larger_before x y h = rw (lt-ltb (size_at bars y) (size_at bars x) h)

  pub equal_before : (x y : ℕ) → size_at bars x ≡ size_at bars y → x < y → comes_before bars x y ≡ true
  unfolding comes_before
  equal_before x y e h = rw (le-ltb (size_at bars y) (size_at bars x) (omega arith), eq-eqb (size_at bars x) (size_at bars y) e, lt-ltb x y h)

  -- of two, only one comes before the other
  pub not_both_before : (x y : ℕ) → comes_before bars x y ≡ true → comes_before bars y x ≡ true → ⊥
  not_both_before x y e f =
      ⊎_elim (λ a. ⊎_elim (λ b. omega arith) (λ b. omega (arith, b.0)) (before_is y x f)) (λ a. ⊎_elim (λ b. omega (arith, a.0)) (λ b. omega (arith, a.1, b.1)) (before_is y x f)) (before_is x y e)

  before_self : (x : ℕ) → comes_before bars x x ≡ false
  before_self x = never (comes_before bars x x) (λ e. not_both_before x x e e)

  pub before_on : (x y z : ℕ) → comes_before bars x y ≡ true → comes_before bars y z ≡ true → comes_before bars x z ≡ true
  before_on x y z e f =
      ⊎_elim
      (λ a. larger_before x z (⊎_elim (λ b. omega arith) (λ b. omega (arith, b.0)) (before_is y z f)))
      (λ a.
      ⊎_elim (λ (b : size_at bars z < size_at bars y). larger_before x z (omega (arith, a.0))) (λ b. equal_before x z (a.0 ∙ b.0) (omega (arith, a.1, b.1))) (before_is y z f))
      (before_is x y e)

  one_before : (x y : ℕ) → (x ≡ y → ⊥) → (comes_before bars x y ≡ true) ⊎ (comes_before bars y x ≡ true)
  one_before x y d =
      ⊎_elim (λ (h : size_at bars x < size_at bars y). inr (larger_before y x h))
      (λ (h : size_at bars y ≤ size_at bars x).
      ⊎_elim (λ (k : size_at bars y < size_at bars x). inl (larger_before x y k))
      (λ (k : size_at bars x ≤ size_at bars y).
      ⊎_elim (λ (l : x < y). inl (equal_before x y (omega arith) l)) (λ (l : y ≤ x). inr (equal_before y x (omega arith) (⊎_elim (λ (m : y < x). m) (λ (m : x ≤ y). absurd (d (omega arith))) (below_or_not y x)))) (below_or_not x y))
      (below_or_not (size_at bars y) (size_at bars x)))
      (below_or_not (size_at bars x) (size_at bars y))

-- the same of any two requests, with what is known of their keys and sizes
ordered_self : (r : Request) (k s : Bool) → k ≡ false → s ≡ false → ordered r r k s ≡ false
ordered_self (Fixed a) k s e f = e
ordered_self Auto k s e f = f

ordered_on : (r q p : Request) (k l m s t u : Bool) → (k ≡ true → l ≡ true → m ≡ true) → (s ≡ true → t ≡ true → u ≡ true) → ordered r q k s ≡ true → ordered q p l t ≡ true → ordered r p m u ≡ true
ordered_on (Fixed a) (Fixed b) (Fixed c) k l m s t u f g d e = f d e
ordered_on (Fixed a) (Fixed b) Auto k l m s t u f g d e = refl
ordered_on (Fixed a) Auto (Fixed c) k l m s t u f g d e = absurd (both e refl)
ordered_on (Fixed a) Auto Auto k l m s t u f g d e = refl
ordered_on Auto (Fixed b) p k l m s t u f g d e = absurd (both d refl)
ordered_on Auto Auto (Fixed c) k l m s t u f g d e = e
ordered_on Auto Auto Auto k l m s t u f g d e = g d e

ordered_one : (r q : Request) (k l s t : Bool) → (k ≡ true) ⊎ (l ≡ true) → (s ≡ true) ⊎ (t ≡ true) → (ordered r q k s ≡ true) ⊎ (ordered q r l t ≡ true)
ordered_one (Fixed a) (Fixed b) k l s t f g = f
ordered_one (Fixed a) Auto k l s t f g = inl refl
ordered_one Auto (Fixed b) k l s t f g = inr refl
ordered_one Auto Auto k l s t f g = g

module _ (bars : List MemoryBar) where
  -- by the requests of two keys
  pub among_fixed : (x y a b : ℕ) → request_at bars x ≡ Fixed a → request_at bars y ≡ Fixed b → precedes bars x y ≡ ltb x y
  unfolding precedes
  among_fixed x y a b e f = rw (e, f)

  pub fixed_first : (x y a : ℕ) → request_at bars x ≡ Fixed a → request_at bars y ≡ Auto → precedes bars x y ≡ true
  unfolding precedes
  fixed_first x y a e f = rw (e, f)

  pub auto_last : (x y a : ℕ) → request_at bars x ≡ Auto → request_at bars y ≡ Fixed a → precedes bars x y ≡ false
  unfolding precedes
  auto_last x y a e f = rw (e, f)

  pub among_auto : (x y : ℕ) → request_at bars x ≡ Auto → request_at bars y ≡ Auto → precedes bars x y ≡ comes_before bars x y
  unfolding precedes
  among_auto x y e f = rw (e, f)

  pub precedes_self : (x : ℕ) → precedes bars x x ≡ false
  unfolding precedes
  precedes_self x = ordered_self (request_at bars x) (ltb x x) (comes_before bars x x) (le-ltb x x (omega arith)) (before_self bars x)

  pub precedes_on : (x y z : ℕ) → precedes bars x y ≡ true → precedes bars y z ≡ true → precedes bars x z ≡ true
  unfolding precedes
  precedes_on x y z e f =
      ordered_on (request_at bars x) (request_at bars y) (request_at bars z) (ltb x y) (ltb y z) (ltb x z) (comes_before bars x y) (comes_before bars y z) (comes_before bars x z) (λ a b. lt-ltb x z (omega (arith, ltb-true x y a, ltb-true y z b))) (before_on bars x y z) e f

  pub one_precedes : (x y : ℕ) → (x ≡ y → ⊥) → (precedes bars x y ≡ true) ⊎ (precedes bars y x ≡ true)
  unfolding precedes
  one_precedes x y d =
      ordered_one (request_at bars x) (request_at bars y) (ltb x y) (ltb y x) (comes_before bars x y) (comes_before bars y x)
      (⊎_elim (λ (h : x < y). inl (lt-ltb x y h)) (λ (h : y ≤ x). inr (lt-ltb y x (⊎_elim (λ (m : y < x). m) (λ (m : x ≤ y). absurd (d (omega arith))) (below_or_not y x)))) (below_or_not x y)) (one_before bars x y d)

  pub not_back : (x y : ℕ) → precedes bars x y ≡ true → precedes bars y x ≡ false
  not_back x y e = never (precedes bars y x) (λ f. both (precedes_on x y x e f) (precedes_self x))

  -- what is placed before another is another
  pub precedes_other : (x y : ℕ) → precedes bars x y ≡ true → x ≡ y → ⊥
  precedes_other x y e q = both e (rw q (precedes_self y))

  -- how many are placed before a key grows along the order
  abbrev turn : ℕ → ℕ
  turn x = counted (λ k. precedes bars k x) key_count

  turn_later : (x y : ℕ) → x < key_count → precedes bars x y ≡ true → turn x < turn y
  turn_later x y h e = omega (arith, counted_less (λ k. precedes bars k y) (λ k. precedes bars k x) (λ k f. precedes_on k x y f e) x key_count h e (precedes_self x))

  by_turn : (P : ℕ → Type 0) → ((x : ℕ) → x < key_count → ((k : ℕ) → k < key_count → precedes bars k x ≡ true → P k) → P x) → (n x : ℕ) → x < key_count → turn x < n → P x
  by_turn P f zero x h l = absurd (omega arith)
  by_turn P f (suc n) x h l = f x h (λ k m e. by_turn P f n k m (omega (arith, turn_later k x m e)))

  pub by_order : (P : ℕ → Type 0) → ((x : ℕ) → x < key_count → ((k : ℕ) → k < key_count → precedes bars k x ≡ true → P k) → P x) → (x : ℕ) → x < key_count → P x
  by_order P f x h = by_turn P f (suc (turn x)) x h (omega arith)
