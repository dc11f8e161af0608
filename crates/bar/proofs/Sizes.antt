-- The size rule: from the least to the largest, a power of two.
use Rattle.std.specs.Prelude.{Ok, Err}
use Prim.Native.Nat.{ℕ, ◌^◌, ◌<◌, ◌≤◌}
use mathlib.Core.Bool.{true, false, ◌&&◌, and-false}
use mathlib.Core.Logic.{⊎_elim}
use mathlib.Core.Path.{◌≡◌}
use borrow.Author.Tests.{le-leb, lt-leb, eq-eqb, leb-true, eqb-true}
use native.Mathlib.Omega.{arith}
use lib.Dec.{leb, eqb}
use lib.Pow.{pow_mono}
use Rattle.word.proofs.Tests.{and_left, and_right, below_or_not}
use Rattle.word.proofs.Searches.{any_found, any_has_lem}
use Rattle.address.specs.declared.slot.Slot.{Slot}
use Rattle.bar.specs.Bar.{power_of_two, least_size, most_size, size_ok, Sized, memory_bar, bar_of}
use Rattle.bar.specs.declared.memory_bar.Request.{Request}
use Rattle.bar.specs.declared.memory_bar.MemoryBar.{MemoryBar}
use Rattle.refusal.proofs.Choices.{was_ok, was_refused}
use Rattle.refusal.specs.declared.refusal.Refusal.{Refusal}
use Rattle.refusal.specs.declared.refusal.Refusal.TheVariants as refusal

-- an exponent of a 64-bit power is below 64
pub exponent_lt : (k p : ℕ) → p ≡ 2 ^ k → p < 2 ^ 64 → k < 64
exponent_lt k p e h = ⊎_elim (λ (l : k < 64). l) (λ (l : 64 ≤ k). absurd (omega (arith, pow_mono {i = 64} {j = k} l))) (below_or_not k 64)

pub power_has : (n : ℕ) → power_of_two n ≡ true → (k : ℕ) × (n ≡ 2 ^ k)
unfolding power_of_two
power_has n e = let r = any_has_lem (λ k. eqb n (2 ^ k)) 64 e in (r.0, eqb-true n (2 ^ r.0) r.2)

pub power_of : (n k : ℕ) → n ≡ 2 ^ k → k < 64 → power_of_two n ≡ true
unfolding power_of_two
power_of n k e h = any_found (λ k. eqb n (2 ^ k)) k 64 h (eq-eqb n (2 ^ k) e)

-- a power of at least the least size has an exponent of at least 4
pub least_exponent : (n j : ℕ) → least_size ≤ n → n ≡ 2 ^ j → 4 ≤ j
least_exponent n j h e =
    ⊎_elim (λ (l : j < 4). absurd (omega (arith, pow_mono {i = j} {j = 3} (omega arith)))) (λ (l : 4 ≤ j). l) (below_or_not j 4)

pub size_ok_lem : (size : ℕ) → Sized size → size_ok size ≡ true
unfolding size_ok
size_ok_lem size s =
    rw (le-leb least_size size s.least, le-leb size most_size s.most) (power_of size s.exponent s.power (exponent_lt s.exponent size s.power (omega (arith, s.most))))

pub ok_size : (size : ℕ) → size_ok size ≡ true → Sized size
unfolding size_ok
ok_size size e =
    let r = and_right (leb least_size size) (leb size most_size && power_of_two size) e in
    let p = power_has size (and_right (leb size most_size) (power_of_two size) r) in
    record { least = leb-true least_size size (and_left (leb least_size size) (leb size most_size && power_of_two size) e); most = leb-true size most_size (and_left (leb size most_size) (power_of_two size) r); exponent = p.0; power = p.1 }

pub size_small : (size : ℕ) → size < least_size → size_ok size ≡ false
unfolding size_ok
size_small size h = rw (lt-leb least_size size h)

pub size_large : (size : ℕ) → most_size < size → size_ok size ≡ false
unfolding size_ok
size_large size h = rw (lt-leb size most_size h, and-false (leb least_size size))

-- between the two ends the power decides
pub size_by_power : (size : ℕ) → least_size ≤ size → size ≤ most_size → size_ok size ≡ power_of_two size
unfolding size_ok
size_by_power size h k = rw (le-leb least_size size h, le-leb size most_size k)

pub bar_good : (s : Slot) (size : ℕ) (r : Request) → size_ok size ≡ true → bar_of s size r ≡ Ok (memory_bar s size r)
unfolding bar_of
bar_good s size r e = rw e

pub bar_bad : (s : Slot) (size : ℕ) (r : Request) → size_ok size ≡ false → bar_of s size r ≡ Err refusal.BadSize
unfolding bar_of
bar_bad s size r e = rw e

-- a BAR that was made has a size by the rule
pub bar_is : (s : Slot) (size : ℕ) (r : Request) (b : MemoryBar) → bar_of s size r ≡ Ok b → (b ≡ memory_bar s size r) × Sized size
unfolding bar_of
bar_is s size r b e = let q = was_ok (size_ok size) (memory_bar s size r) b refusal.BadSize e in (q.0, ok_size size q.1)

-- and one that was refused has none
pub bar_refused : (s : Slot) (size : ℕ) (q : Request) (r : Refusal) → bar_of s size q ≡ Err r → (r ≡ refusal.BadSize) × (size_ok size ≡ false)
unfolding bar_of
bar_refused s size q r e = was_refused (size_ok size) (memory_bar s size q) refusal.BadSize r e
