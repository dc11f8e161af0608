-- Where capabilities start: multiples of 4 from 0x40 on, ascending and apart, and no layout starts one lower.
use Prim.Native.Nat.{ℕ, zero, suc, ◌+◌, ◌*◌, ◌%◌, ◌<◌, ◌≤◌}
use mathlib.Core.Logic.{⊎_elim}
use mathlib.Core.Path.{◌≡◌, refl}
use native.Mathlib.Nat.{eq-or-lt_of_le}
use native.Mathlib.Numerals.{add-one}
use native.Mathlib.Omega.{arith}
use Rattle.address.specs.Layout.{standard_header_end}
use Rattle.capability.specs.Offset.{alignment, next_multiple, offset_at, end_at}
use Rattle.capability.specs.Arranged.{Arranged, Fit}

-- the first multiple of 4 from n on is one, is not below n, and no other is lower
pub next_multiple_lem : (n : ℕ) → next_multiple n % alignment ≡ 0
unfolding next_multiple
next_multiple_lem n = omega arith

pub next_from_lem : (n : ℕ) → n ≤ next_multiple n
unfolding next_multiple
next_from_lem n = omega arith

pub next_near : (n : ℕ) → next_multiple n < n + alignment
unfolding next_multiple
next_near n = omega arith

pub next_least : (n m : ℕ) → n ≤ m → m % alignment ≡ 0 → next_multiple n ≤ m
unfolding next_multiple
next_least n m h e = omega arith

-- where capability k starts at most: a header, a body whose length is a byte, and the gap to a multiple of 4 take 260 bytes
abbrev pub farthest : ℕ → ℕ
farthest k = standard_header_end + 260 * k

module _ (length : ℕ → ℕ) where
  pub offset_first : offset_at length 0 ≡ standard_header_end
  unfolding offset_at
  offset_first = refl

  pub offset_next : (k : ℕ) → offset_at length (k + 1) ≡ next_multiple (end_at length k)
  unfolding offset_at
  offset_next k = rw add-one

  pub offset_multiple : (k : ℕ) → offset_at length k % alignment ≡ 0
  unfolding offset_at
  offset_multiple zero = refl
  offset_multiple (suc k) = next_multiple_lem (end_at length k)

  -- each starts after the one before ends
  pub end_before_next : (k : ℕ) → end_at length k ≤ offset_at length (suc k)
  unfolding offset_at
  end_before_next k = next_from_lem (end_at length k)

  -- and after every earlier one ends: ascending and apart
  pub end_before : (i k : ℕ) → i < k → end_at length i ≤ offset_at length k
  end_before i zero h = absurd (omega arith)
  end_before i (suc k) h =
      ⊎_elim (λ (e : i ≡ k). rw e (end_before_next k)) (λ (l : i < k). omega (arith, end_before i k l, end_before_next k)) (eq-or-lt_of_le {n = i} {m = k} (omega arith))

  pub offset_from : (k : ℕ) → standard_header_end ≤ offset_at length k
  offset_from zero = omega (arith, offset_first)
  offset_from (suc k) = omega (arith, offset_from k, end_before_next k)

  pub offset_ascends : (i k : ℕ) → i < k → offset_at length i < offset_at length k
  offset_ascends i k h = omega (arith, end_before i k h)

  -- no offset is far
  pub offset_near : ((k : ℕ) → length k ≤ 255) → (k : ℕ) → offset_at length k ≤ farthest k
  unfolding offset_at
  offset_near b zero = omega arith
  offset_near b (suc k) = omega (arith, b k, offset_near b k, next_near (end_at length k))

  module _ (space n : ℕ) where
    -- ours are a layout of the first n, if these end in the space
    pub inside_fit : ((k : ℕ) → k < n → end_at length k ≤ space) → Fit space length n
    inside_fit h = (offset_at length, record { first = λ l. offset_from 0; multiple = λ k l. offset_multiple k; after = λ k l. end_before_next k; inside = h })

    -- and the least
    pub offset_least : (at : ℕ → ℕ) → Arranged space length n at → (k : ℕ) → k < n → offset_at length k ≤ at k
    unfolding offset_at
    offset_least at a zero h = a.first h
    offset_least at a (suc k) h =
        next_least (end_at length k) (at (suc k)) (omega (arith, offset_least at a k (omega arith), a.after k h)) (a.multiple (suc k) h)

    -- so if the first n have a layout at all, ours end in the space
    pub fit_inside : Fit space length n → (k : ℕ) → k < n → end_at length k ≤ space
    fit_inside f k h = omega (arith, offset_least f.0 f.1 k h, f.1.inside k h)

-- a layout of more is one of fewer
pub fit_less : (length : ℕ → ℕ) (space n m : ℕ) → m ≤ n → Fit space length n → Fit space length m
fit_less length space n m h f =
    (f.0, record { first = λ l. f.1.first (omega arith); multiple = λ k l. f.1.multiple k (omega arith); after = λ k l. f.1.after k (omega arith); inside = λ k l. f.1.inside k (omega arith) })

-- where a capability starts depends on the bodies before it alone
pub offset_same : (l m : ℕ → ℕ) (k : ℕ) → ((i : ℕ) → i < k → l i ≡ m i) → offset_at l k ≡ offset_at m k
unfolding offset_at
offset_same l m zero h = refl
offset_same l m (suc k) h = rw (offset_same l m k (λ i j. h i (omega arith)), h k (omega arith))
