-- The revision follows command bits 1, 2 and 10: the watched bits of two images are the same exactly if these are.
use Prim.Native.Nat.{ℕ, ◌+◌, ◌*◌, ◌/◌, ◌<◌}
use mathlib.Core.Bool.{Bool, true, false, cond}
use mathlib.Core.List.{List}
use mathlib.Core.Logic.{⊎_elim}
use mathlib.Core.Path.{◌≡◌, refl, sym, ap, ◌∙◌}
use native.Mathlib.Nat.{mod-lt}
use native.Mathlib.Omega.{arith}
use borrow.Author.Tests.{eq-eqb, ne_eqb}
use lib.Bits.{bit_and, and_high}
use lib.Dec.{eqb}
use lib.ListN.{get_or}
use Rattle.word.proofs.Tests.{same_or_not}
use Rattle.word.specs.Bit.{bit}
use Rattle.address.specs.Layout as layout
use Rattle.config.specs.Command.{command_low, command_high, watched, largest_revision, revision_after, exhausted, command_bit, SameCommand, Follows, stays, counts}

-- the bits that a mask keeps, each at its place
low_bits : (n : ℕ) → bit_and n command_low ≡ 2 * bit n 1 + 4 * bit n 2
low_bits n = and_high n 2 1 ∙ omega arith

high_bit : (n : ℕ) → bit_and n command_high ≡ 4 * bit n 2
high_bit n = and_high n 1 2 ∙ omega arith

-- bits at their places tell each of them
half : (x y : ℕ) → x < 2 → (x + 2 * y) / 2 ≡ y
half x y h = omega arith

two_bits : (x y u v : ℕ) → x < 2 → u < 2 → x + 2 * y ≡ u + 2 * v → (x ≡ u) × (y ≡ v)
two_bits x y u v a b h =
    let e : y ≡ v = sym (half x y a) ∙ ap (λ (n : ℕ). n / 2) h ∙ half u v b in
    (omega arith, e)

three_bits : (x y z u v w : ℕ) → x < 2 → y < 2 → u < 2 → v < 2 → 2 * x + 4 * y + 256 * (4 * z) ≡ 2 * u + 4 * v + 256 * (4 * w) → (x ≡ u) × (y ≡ v) × (z ≡ w)
three_bits x y z u v w a b c d h =
    let e : z ≡ w = omega arith in
    let r = two_bits x y u v a c (omega arith) in
    (r.0, r.1, e)

watched_is : (image : List ℕ) → watched image ≡ 2 * command_bit image 1 + 4 * command_bit image 2 + 256 * (4 * command_bit image 10)
unfolding watched
watched_is image = rw (low_bits (get_or image layout.command 0), high_bit (get_or image (layout.command + 1) 0))

module _ (a b : List ℕ) where
  pub watched_same : watched a ≡ watched b → SameCommand a b
  watched_same e =
      let r = three_bits (command_bit a 1) (command_bit a 2) (command_bit a 10) (command_bit b 1) (command_bit b 2) (command_bit b 10) (mod-lt _ (omega arith)) (mod-lt _ (omega arith)) (mod-lt _ (omega arith)) (mod-lt _ (omega arith)) (sym (watched_is a) ∙ e ∙ watched_is b) in
      record { memory = r.0; master = r.1; interrupt = r.2 }

  pub same_watched : SameCommand a b → watched a ≡ watched b
  same_watched s = watched_is a ∙ rw (s.memory, s.master, s.interrupt) (sym (watched_is b))

pub same_revision : (live next : List ℕ) (n : ℕ) → watched live ≡ watched next → revision_after live next n ≡ n
unfolding revision_after
same_revision live next n e = rw (eq-eqb (watched live) (watched next) e)

pub next_revision : (live next : List ℕ) (n : ℕ) → (watched live ≡ watched next → ⊥) → revision_after live next n ≡ n + 1
unfolding revision_after
next_revision live next n h = rw (ne_eqb (watched live) (watched next) h)

pub same_not_exhausted : (live next : List ℕ) (n : ℕ) → watched live ≡ watched next → exhausted live next n ≡ false
unfolding exhausted
same_not_exhausted live next n e = rw (eq-eqb (watched live) (watched next) e)

pub room_not_exhausted : (live next : List ℕ) (n : ℕ) → (n ≡ largest_revision → ⊥) → exhausted live next n ≡ false
unfolding exhausted
room_not_exhausted live next n h = by_test (eqb (watched live) (watched next)) n h
  where
    by_test : (t : Bool) (n : ℕ) → (n ≡ largest_revision → ⊥) → cond t false (eqb n largest_revision) ≡ false
    by_test true n h = refl
    by_test false n h = ne_eqb n largest_revision h

pub is_exhausted : (live next : List ℕ) (n : ℕ) → (watched live ≡ watched next → ⊥) → n ≡ largest_revision → exhausted live next n ≡ true
unfolding exhausted
is_exhausted live next n h e = rw (ne_eqb (watched live) (watched next) h, eq-eqb n largest_revision e)

-- one is counted exactly if one of these bits changes
pub revision_follows : (live next : List ℕ) (n : ℕ) → Follows live next n (revision_after live next n)
revision_follows live next n =
    ⊎_elim (λ (e : watched live ≡ watched next). stays (watched_same live next e) (same_revision live next n e))
    (λ (h : watched live ≡ watched next → ⊥). counts (λ s. h (same_watched live next s)) (next_revision live next n h))
    (same_or_not (watched live) (watched next))
