-- A part that is written where there is room for it.
use Prim.Native.Nat.{ℕ, ◌+◌, ◌-◌, ◌≤◌, ◌<◌}
use mathlib.Core.Bool.{Bool, true, false}
use mathlib.Core.List.{List, ◌++◌}
use mathlib.Core.Path.{◌≡◌, refl, sym, ◌∙◌}
use native.Mathlib.Omega.{arith}
use borrow.Author.Tests.{leb-true, leb-false, le-leb, lt-leb}
use lib.Dec.{leb}
use lib.ListN.{length, take}
use Rattle.word.proofs.Tests.{same_test}
use Rattle.text.specs.Part.{Written}

-- a test for room that held, and one that did not
pub room_there : (t : Bool) (n m : ℕ) → t ≡ leb n m → t ≡ true → n ≤ m
room_there t n m e h = leb-true n m (sym e ∙ h)

pub room_not : (t : Bool) (n m : ℕ) → t ≡ leb n m → t ≡ false → m < n
room_not t n m e h = leb-false n m (sym e ∙ h)

-- the test that takes no sum
pub room_short : (length at room : ℕ) → length < room → leb (at + room) length ≡ false
room_short length at room h = lt-leb (at + room) length (omega arith)

pub room_rest : (length at room : ℕ) → room ≤ length → leb at (length - room) ≡ leb (at + room) length
room_rest length at room h =
    same_test (leb at (length - room)) (leb (at + room) length) (λ t. le-leb (at + room) length (omega (arith, leb-true at (length - room) t))) (λ t. le-leb at (length - room) (omega (arith, leb-true (at + room) length t)))
