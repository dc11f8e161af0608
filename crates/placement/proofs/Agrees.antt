-- Two sets of addresses agree on all that is placed before a key, by the order of placing. So there is one first BAR that is refused, for one reason, or none.
use Prim.Native.Nat.{ℕ, ◌<◌}
use mathlib.Core.Bool.{true}
use mathlib.Core.List.{List}
use mathlib.Core.Logic.{⊎_elim}
use mathlib.Core.Path.{◌≡◌, sym, ◌∙◌}
use lib.ListN.{get_or}
use lib.Seq.{ext_get_or}
use Rattle.refusal.specs.declared.refusal.Refusal.{Refusal}
use Rattle.word.proofs.Tests.{same_or_not}
use Rattle.bar.specs.Bar.{no_bar}
use Rattle.bar.specs.declared.range.Aperture.{Aperture}
use Rattle.bar.specs.declared.memory_bar.MemoryBar.{MemoryBar}
use Rattle.placement.specs.Keys.{key_count}
use Rattle.placement.specs.Order.{precedes, placed_before}
use Rattle.placement.specs.Outcome.{GivenAt, AllGiven, FirstRefused}
use Rattle.placement.proofs.Orders.{precedes_on, one_precedes, by_order}
use Rattle.placement.proofs.Rules.{given_same, row_given, row_same}
use Rattle.placement.proofs.Sounds.{before_same}

module _ (aperture : Aperture) (bars : List MemoryBar) where
  -- every BAR that is placed before a key has its address
  abbrev pub Before : List ℕ → ℕ → Type 0
  Before addresses key = (k : ℕ) → k < key_count → precedes bars k key ≡ true → GivenAt aperture bars addresses k

  -- so two sets of addresses agree on these
  agree : (a b : List ℕ) (key : ℕ) → key < key_count → Before a key → Before b key → placed_before bars a key ≡ placed_before bars b key
  agree a b =
      by_order bars (λ key. Before a key → Before b key → placed_before bars a key ≡ placed_before bars b key) (λ key h i f g.
      before_same bars a b key (λ k l e.
      let same = i k l e (λ j m d. f j m (precedes_on bars j k key d e)) (λ j m d. g j m (precedes_on bars j k key d e)) in
      given_same aperture (get_or bars k no_bar) (placed_before bars b k) (get_or a k 0) (get_or b k 0) (rw same at (f k l e)) (g k l e)))

  -- a key that is refused has no address elsewhere
  refused_not_given : (refusal : Refusal) (key : ℕ) (b : List ℕ) → FirstRefused aperture bars refusal key → Before b key → GivenAt aperture bars b key → ⊥
  refused_not_given refusal key b f before g =
      row_given aperture (get_or bars key no_bar) (placed_before bars b key) refusal (get_or b key 0) (rw (agree f.addresses b key f.within f.before before) at f.row) g

  -- so nothing that is placed before a refused key is refused
  none_refused_before : (refusal m : Refusal) (key k : ℕ) → FirstRefused aperture bars refusal key → FirstRefused aperture bars m k → precedes bars key k ≡ true → ⊥
  none_refused_before refusal m key k f g e =
      refused_not_given refusal key g.addresses f (λ j l d. g.before j l (precedes_on bars j key k d e)) (g.before key f.within e)

  pub refused_key : (refusal m : Refusal) (key k : ℕ) → FirstRefused aperture bars refusal key → FirstRefused aperture bars m k → key ≡ k
  refused_key refusal m key k f g =
      ⊎_elim (λ (q : key ≡ k). q)
      (λ (q : key ≡ k → ⊥). ⊎_elim (λ e. absurd (none_refused_before refusal m key k f g e)) (λ e. absurd (none_refused_before m refusal k key g f e)) (one_precedes bars key k q))
      (same_or_not key k)

  pub refused_reason : (refusal m : Refusal) (key : ℕ) → FirstRefused aperture bars refusal key → FirstRefused aperture bars m key → refusal ≡ m
  refused_reason refusal m key f g =
      row_same aperture (get_or bars key no_bar) (placed_before bars g.addresses key) refusal m (rw (agree f.addresses g.addresses key f.within f.before g.before) at f.row) g.row

  pub given_not_refused : (refusal : Refusal) (key : ℕ) (b : List ℕ) → FirstRefused aperture bars refusal key → AllGiven aperture bars b → ⊥
  given_not_refused refusal key b f a = refused_not_given refusal key b f (λ k l e. a.given k l) (a.given key f.within)

  pub given_addresses : (a b : List ℕ) → AllGiven aperture bars a → AllGiven aperture bars b → a ≡ b
  given_addresses a b f g =
      ext_get_or 0 a b (f.long ∙ sym g.long) (λ k h.
      let l : k < key_count = rw f.long at h in
      given_same aperture (get_or bars k no_bar) (placed_before bars b k) (get_or a k 0) (get_or b k 0) (rw (agree a b k l (λ j m e. f.given j m) (λ j m e. g.given j m)) at (f.given k l)) (g.given k l))
