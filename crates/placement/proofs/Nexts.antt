-- The next automatic BAR: the one that comes before all others that wait, of which there is at most one.
use Prim.Native.Nat.{ℕ, ◌<◌}
use mathlib.Core.Bool.{Bool, true, false, not, ◌&&◌}
use mathlib.Core.List.{List}
use mathlib.Core.Path.{◌≡◌, sym}
use native.Mathlib.Omega.{arith}
use borrow.Author.Tests.{ne_eqb, eqb-false, not-true, not-false}
use lib.Dec.{eqb}
use Rattle.word.specs.Search.{any_below}
use Rattle.word.proofs.Tests.{both, never, and_left, and_right}
use Rattle.word.proofs.Searches.{any_found, any_has_lem, first_is, first_none, found_first}
use Rattle.bar.specs.declared.range.Range.{Range}
use Rattle.bar.specs.declared.memory_bar.MemoryBar.{MemoryBar}
use Rattle.placement.specs.Keys.{key_count}
use Rattle.placement.specs.Order.{comes_before}
use Rattle.placement.specs.Passes.{waits, is_next, next_of}
use Rattle.std.specs.Prelude.{Some, None}
use Rattle.placement.proofs.Orders.{not_both_before}

-- what the next one is
pub record Foremost (bars : List MemoryBar) (placed : List Range) (x : ℕ) : Type 0 where
  pub here : waits bars placed x ≡ true
  pub first : (y : ℕ) → y < key_count → waits bars placed y ≡ true → (y ≡ x → ⊥) → comes_before bars x y ≡ true

module _ (bars : List MemoryBar) (placed : List Range) where
  -- whether y waits and x does not come before it
  abbrev against : ℕ → ℕ → Bool
  against x y = waits bars placed y && (not (eqb y x) && not (comes_before bars x y))

  pub first_next : (x : ℕ) → Foremost bars placed x → is_next bars placed x ≡ true
  unfolding is_next
  first_next x f =
      rw (
        f.here,
        never (any_below (against x) key_count) (λ t.
            let w = any_has_lem (against x) key_count t in
            let y = w.0 in
            let r = and_right (waits bars placed y) (not (eqb y x) && not (comes_before bars x y)) w.2 in
            both (f.first y w.1 (and_left (waits bars placed y) (not (eqb y x) && not (comes_before bars x y)) w.2) (eqb-false y x (not-true (eqb y x) (and_left (not (eqb y x)) (not (comes_before bars x y)) r))))
            (not-true (comes_before bars x y) (and_right (not (eqb y x)) (not (comes_before bars x y)) r))),
      )

  pub next_first : (x : ℕ) → is_next bars placed x ≡ true → Foremost bars placed x
  unfolding is_next
  next_first x e =
      let n = not (any_below (against x) key_count) in
      record {
        here = and_left (waits bars placed x) n e;
        first = λ y h w d. not-false (comes_before bars x y) (never (not (comes_before bars x y)) (λ t.
            both (any_found (against x) y key_count h (rw (w, ne_eqb y x d, not-true (comes_before bars x y) t))) (not-true (any_below (against x) key_count) (and_right (waits bars placed x) n e))));
      }

  -- there is at most one
  pub first_unique : (x y : ℕ) → x < key_count → y < key_count → Foremost bars placed x → Foremost bars placed y → (x ≡ y → ⊥) → ⊥
  first_unique x y h k a b d = not_both_before bars x y (a.first y k b.here (λ e. d (sym e))) (b.first x h a.here d)

  pub next_at : (x : ℕ) → x < key_count → Foremost bars placed x → next_of bars placed ≡ Some x
  unfolding next_of
  next_at x h f =
      first_is Some None (is_next bars placed) key_count x (record { below = h; before = λ b l. never (is_next bars placed b) (λ t. first_unique b x (omega arith) h (next_first b t) f (λ e. omega arith)); here = first_next x f })

  pub next_none : ((y : ℕ) → y < key_count → waits bars placed y ≡ false) → next_of bars placed ≡ None
  unfolding next_of
  next_none f =
      first_none Some None (is_next bars placed) key_count (λ b l. never (is_next bars placed b) (λ t. both (next_first b t).here (f b l)))

  -- and what an answer says
  pub next_is : (x : ℕ) → next_of bars placed ≡ Some x → (x < key_count) × Foremost bars placed x
  unfolding next_of
  next_is x q =
      let f = found_first Some None (λ a b e. cc) (λ a e. cc) (is_next bars placed) key_count x q in
      (f.below, next_first x f.here)
