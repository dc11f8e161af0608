-- What is placed so far is sound: each key that is done has its address by the rule, given those placed before it, and the others have nothing. At the turn of a BAR, those that are done are just those placed before it, so one more keeps it sound.
use Prim.Native.Nat.{ℕ, ◌<◌}
use mathlib.Core.Bool.{Bool, true, false, cond}
use mathlib.Core.List.{List}
use mathlib.Core.Logic.{⊎_elim}
use mathlib.Core.Path.{◌≡◌, sym, ap, ◌∙◌}
use lib.ListN.{length, get_or, set, length-set}
use lib.Seq.{ext_get_or, get_or-set_same, get_or-set_other}
use Rattle.word.proofs.Tests.{true_or_false, same_or_not, both}
use Rattle.word.proofs.Tables.{length_table, get_or_table, table_ext}
use Rattle.refusal.specs.declared.refusal.Refusal.{Refusal}
use Rattle.bar.specs.Range.{range}
use Rattle.bar.specs.Bar.{no_bar}
use Rattle.bar.specs.declared.range.Range.{Range}
use Rattle.bar.specs.declared.range.Aperture.{Aperture}
use Rattle.bar.specs.declared.memory_bar.MemoryBar.{MemoryBar}
use Rattle.placement.specs.Keys.{key_count}
use Rattle.placement.specs.Place.{no_range}
use Rattle.placement.specs.Order.{size_at, precedes, range_at, placed_before}
use Rattle.placement.specs.Answer.{addresses_of}
use Rattle.placement.specs.Rule.{Given, Row}
use Rattle.placement.specs.Outcome.{GivenAt, FirstRefused}
use Rattle.placement.proofs.Orders.{precedes_self, not_back, precedes_other}

-- the address at a key
pub address_at : (placed : List Range) (k : ℕ) → k < key_count → get_or (addresses_of placed) k 0 ≡ (get_or placed k no_range).start
unfolding addresses_of
address_at placed k h = get_or_table key_count (λ key. (get_or placed key no_range).start) k 0 h

module _ (bars : List MemoryBar) where
  -- what is placed before a key
  abbrev before_at : List ℕ → ℕ → ℕ → Range
  before_at addresses key k = cond (precedes bars k key) (range_at bars addresses k) no_range

  pub length_before : (addresses : List ℕ) (key : ℕ) → length (placed_before bars addresses key) ≡ key_count
  unfolding placed_before
  length_before addresses key = length_table key_count (before_at addresses key)

  pub before_at_lem : (addresses : List ℕ) (key k : ℕ) → k < key_count → get_or (placed_before bars addresses key) k no_range ≡ cond (precedes bars k key) (range_at bars addresses k) no_range
  unfolding placed_before
  before_at_lem addresses key k h = get_or_table key_count (before_at addresses key) k no_range h

  -- it goes by the addresses of those alone
  pub before_same : (a b : List ℕ) (key : ℕ) → ((k : ℕ) → k < key_count → precedes bars k key ≡ true → get_or a k 0 ≡ get_or b k 0) → placed_before bars a key ≡ placed_before bars b key
  unfolding placed_before
  before_same a b key f =
      table_ext key_count (before_at a key) (before_at b key) (λ k h.
      ⊎_elim (λ (t : precedes bars k key ≡ true). rw (t, f k h t)) (λ (t : precedes bars k key ≡ false). rw t) (true_or_false (precedes bars k key)))

module _ (aperture : Aperture) (bars : List MemoryBar) where
  pub record Sound (done : ℕ → Bool) (placed : List Range) : Type 0 where
    pub long : length placed ≡ key_count
    pub given : (k : ℕ) → k < key_count → done k ≡ true → GivenAt aperture bars (addresses_of placed) k
    pub sized : (k : ℕ) → k < key_count → done k ≡ true → (get_or placed k no_range).size ≡ size_at bars k
    pub blank : (k : ℕ) → k < key_count → done k ≡ false → get_or placed k no_range ≡ no_range

  -- it goes by what is done
  pub sound_same : (f g : ℕ → Bool) (placed : List Range) → ((k : ℕ) → k < key_count → f k ≡ g k) → Sound f placed → Sound g placed
  sound_same f g placed e s =
      record { long = s.long; given = λ k h t. s.given k h (e k h ∙ t); sized = λ k h t. s.sized k h (e k h ∙ t); blank = λ k h t. s.blank k h (e k h ∙ t) }

  -- the turn of the BAR at x
  module _ (x : ℕ) (placed : List Range) (h : x < key_count) (s : Sound (λ k. precedes bars k x) placed) where
    turn_placed : placed ≡ placed_before bars (addresses_of placed) x
    turn_placed =
        ext_get_or no_range placed (placed_before bars (addresses_of placed) x) (s.long ∙ sym (length_before bars (addresses_of placed) x)) (λ k m.
        let l : k < key_count = rw s.long at m in
        rw (before_at_lem bars (addresses_of placed) x k l)
        (⊎_elim (λ (t : precedes bars k x ≡ true). rw (t, address_at placed k l, ← s.sized k l t)) (λ (t : precedes bars k x ≡ false). rw t (s.blank k l t)) (true_or_false (precedes bars k x))))

    -- it is refused by a row
    pub turn_refused : (refusal : Refusal) → Row aperture (get_or bars x no_bar) placed refusal → FirstRefused aperture bars refusal x
    turn_refused refusal r =
        record { within = h; addresses = addresses_of placed; before = s.given; row = rw (← turn_placed) r }

    -- or is given an address
    module _ (a : ℕ) (g : Given aperture (get_or bars x no_bar) placed a) where
      abbrev after : List Range
      after = set placed x (range a (size_at bars x))

      inside : x < length placed
      inside = rw s.long h

      address_here : get_or (addresses_of after) x 0 ≡ a
      address_here = address_at after x h ∙ ap (λ (r : Range). r.start) (get_or-set_same placed x (range a (size_at bars x)) no_range inside)

      address_other : (k : ℕ) → k < key_count → (k ≡ x → ⊥) → get_or (addresses_of after) k 0 ≡ get_or (addresses_of placed) k 0
      address_other k l d =
          address_at after k l ∙ ap (λ (r : Range). r.start) (get_or-set_other placed x k (range a (size_at bars x)) no_range d) ∙ sym (address_at placed k l)

      -- nothing changes for those that x is not placed before
      before_after : (k : ℕ) → precedes bars x k ≡ false → placed_before bars (addresses_of after) k ≡ placed_before bars (addresses_of placed) k
      before_after k f = before_same bars (addresses_of after) (addresses_of placed) k (λ j l e. address_other j l (λ q. both e (rw q f)))

      given_here : GivenAt aperture bars (addresses_of after) x
      given_here = rw (before_after x (precedes_self bars x), address_here, ← turn_placed) g

      given_other : (k : ℕ) → k < key_count → precedes bars k x ≡ true → GivenAt aperture bars (addresses_of after) k
      given_other k l t = rw (before_after k (not_back bars k x t), address_other k l (precedes_other bars k x t)) (s.given k l t)

      pub turn_given : (done : ℕ → Bool) → done x ≡ true → ((k : ℕ) → k < key_count → (k ≡ x → ⊥) → done k ≡ precedes bars k x) → Sound done after
      turn_given done here same =
          record {
            long = length-set placed x (range a (size_at bars x)) ∙ s.long;
            given = λ k l t. ⊎_elim (λ (q : k ≡ x). rw q given_here) (λ (q : k ≡ x → ⊥). given_other k l (sym (same k l q) ∙ t)) (same_or_not k x);
            sized = λ k l t.
                ⊎_elim (λ (q : k ≡ x). rw (q, get_or-set_same placed x (range a (size_at bars x)) no_range inside))
                (λ (q : k ≡ x → ⊥). rw (get_or-set_other placed x k (range a (size_at bars x)) no_range q) (s.sized k l (sym (same k l q) ∙ t)))
                (same_or_not k x);
            blank = λ k l t.
                ⊎_elim (λ (q : k ≡ x). absurd (both here (rw q at t)))
                (λ (q : k ≡ x → ⊥). get_or-set_other placed x k (range a (size_at bars x)) no_range q ∙ s.blank k l (sym (same k l q) ∙ t))
                (same_or_not k x);
          }
