-- The list of capabilities, followed turn by turn, is `list_from`.
use Prim.Native.Nat.{ℕ, zero, suc, ◌+◌, ◌-◌, ◌<◌, ◌≤◌}
use mathlib.Core.Bool.{Bool, true, false, cond}
use mathlib.Core.List.{List, [], ◌∷◌}
use mathlib.Core.Path.{◌≡◌, refl, sym, ap, ◌∙◌}
use native.Mathlib.Numerals.{add-one}
use native.Mathlib.Omega.{arith}
use borrow.Author.Tests.{eq-eqb, ne_eqb}
use lib.Bits.{bit_and}
use lib.Dec.{eqb}
use lib.ListN.{length, drop, get_or, replicate, length-drop}
use lib.Seq.{drop-cons}
use Rattle.word.proofs.Tables.{blank_filled}
use Rattle.address.specs.Layout as layout
use Rattle.address.specs.Limits.{capability_room}
use Rattle.bus.specs.declared.state.Bus.{Bus}
use Rattle.enumeration.specs.Enumerate.{answers_byte, asked, list_from, list_read, list_array, no_listed}
use Rattle.enumeration.specs.Turn.{goes_on, listed_at, next_pointer}
use Rattle.enumeration.specs.declared.report.Listed.{Listed}

by_end : (null there : Bool) (l : List Listed) → cond null false there ≡ false → cond null [] (cond there l []) ≡ []
by_end true there l e = refl
by_end false true l e = let z : ◌≡◌ {A = ℕ} 0 1 = cc in absurd (omega arith)
by_end false false l e = refl

by_turn : (null there more : Bool) (x : Listed) (rest : ℕ → List Listed) (next : ℕ) → rest 0 ≡ [] → cond null false there ≡ true → cond null [] (cond there (x ∷ cond more (rest next) []) []) ≡ x ∷ rest (cond more next 0)
by_turn true there more x rest next z e = let z : ◌≡◌ {A = ℕ} 0 1 = cc in absurd (omega arith)
by_turn false false more x rest next z e = let z : ◌≡◌ {A = ℕ} 0 1 = cc in absurd (omega arith)
by_turn false true true x rest next z e = refl
by_turn false true false x rest next z e = ap (λ (l : List Listed). x ∷ l) (sym z)

module _ (b : Bus) (d : ℕ) where
  from_null : (n : ℕ) → list_from b d n 0 ≡ []
  unfolding list_from
  from_null zero = refl
  from_null (suc n) = refl

  -- a pointer that leads to no capability ends the list
  pub list_ends : (n p : ℕ) → goes_on b d p ≡ false → list_from b d n p ≡ []
  unfolding list_from goes_on
  list_ends zero p e = refl
  list_ends (suc n) p e = by_end (eqb p 0) (answers_byte b d p) _ e

  -- one that leads to a capability gives it, and the list from the next pointer on
  pub list_more : (n p : ℕ) → goes_on b d p ≡ true → list_from b d (suc n) p ≡ listed_at b d p ∷ list_from b d n (next_pointer b d p)
  unfolding list_from goes_on listed_at next_pointer
  list_more n p e = by_turn (eqb p 0) (answers_byte b d p) (answers_byte b d (p + 1)) _ (list_from b d n) (asked b d (p + 1) 1) (from_null n) e

  pub list_full : (p : ℕ) → list_from b d 0 p ≡ []
  unfolding list_from
  list_full p = refl

  -- after n capabilities of at most `room` the pointer is at `p`, and the rest of the list from `start` on lies behind it
  pub record Followed (room start n p : ℕ) : Type 0 where
    pub passed : n ≤ length (list_from b d room start)
    pub left : drop n (list_from b d room start) ≡ list_from b d (room - n) p

  pub followed_none : (room start : ℕ) → Followed room start 0 start
  followed_none room start = let e : room - 0 ≡ room = omega arith in record { passed = omega arith; left = rw e refl }

  module _ (room start n p : ℕ) (f : Followed room start n p) where
    -- where nothing is left, n is the length of the whole
    pub followed_all : list_from b d (room - n) p ≡ [] → n ≡ length (list_from b d room start)
    followed_all e = omega (arith, f.passed, length-drop n (list_from b d room start), ap length (f.left ∙ e))

    module _ (h : n < room) (e : goes_on b d p ≡ true) where
      split : drop n (list_from b d room start) ≡ listed_at b d p ∷ list_from b d (room - (n + 1)) (next_pointer b d p)
      split = let q : room - n ≡ suc (room - (n + 1)) = omega arith in f.left ∙ rw q (list_more (room - (n + 1)) p e)

      inside : n < length (list_from b d room start)
      inside = omega (arith, length-drop n (list_from b d room start), ap length split)

      -- the capability here is the one at n
      pub followed_at : listed_at b d p ≡ get_or (list_from b d room start) n no_listed
      followed_at = let q = drop-cons (list_from b d room start) n no_listed inside in let s = split in cc

      pub followed_more : Followed room start (n + 1) (next_pointer b d p)
      followed_more =
          let q = drop-cons (list_from b d room start) n no_listed inside in
          let s = split in
          let o = add-one n in
          record { passed = omega (arith, inside); left = cc }

-- no list fills the array with blanks
pub blank_array : replicate capability_room no_listed ≡ list_array []
blank_array = blank_filled capability_room (λ k. get_or [] k no_listed) no_listed

-- the list that is read, by the bit of status
module _ (b : Bus) (d status : ℕ) (e : status ≡ asked b d layout.status 2) where
  pub read_none : bit_and status layout.capabilities_list ≡ 0 → list_read b d ≡ []
  unfolding list_read
  read_none h = rw (← e, eq-eqb _ _ h)

  pub read_some : (bit_and status layout.capabilities_list ≡ 0 → ⊥) → list_read b d ≡ list_from b d capability_room (asked b d layout.capability_pointer 1)
  unfolding list_read
  read_some h = rw (← e, ne_eqb _ _ h)
