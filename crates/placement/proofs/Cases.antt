-- What one step of a pass can do: nothing, give a key its address by the rule, or refuse it by a row. Every law on a pass goes by these.
use Prim.Native.Nat.{ℕ, ◌<◌}
use mathlib.Core.List.{List}
use mathlib.Core.Logic.{◌⊎◌, inl, inr, ⊎_elim}
use mathlib.Core.Path.{◌≡◌, refl, sym, subst}
use lib.ListN.{get_or, set}
use Rattle.std.specs.Prelude.{Option, Some, None, Result, Ok, Err}
use Rattle.refusal.specs.declared.refusal.Refusal.{Refusal}
use Rattle.refusal.specs.declared.refusal.Refusal.TheVariants.{NoPlace}
use Rattle.bar.specs.Range.{range}
use Rattle.bar.specs.Bar.{no_bar}
use Rattle.bar.specs.declared.range.Range.{Range}
use Rattle.bar.specs.declared.range.Aperture.{Aperture}
use Rattle.bar.specs.declared.memory_bar.MemoryBar.{MemoryBar}
use Rattle.bar.specs.declared.memory_bar.Request.TheVariants.{Auto, Fixed}
use Rattle.placement.specs.Keys.{key_count}
use Rattle.placement.specs.Place.{Lowest, lowest_of}
use Rattle.placement.specs.Order.{size_at, request_at}
use Rattle.placement.specs.Passes.{Placing, refused_key, settled, fixed_verdict, fixed_step, next_of, fitted, auto_step}
use Rattle.placement.specs.Rule.{Given, Row, row17}
use Rattle.placement.proofs.Places.{lowest_is}
use Rattle.placement.proofs.Steps.{fixed_waits, fixed_asks, auto_none, auto_next}
use Rattle.placement.proofs.Waits.{waits_auto, waits_size}
use Rattle.placement.proofs.Nexts.{Foremost, next_is}
use Rattle.placement.proofs.Rules.{by_request, given_auto, verdict_given, verdict_row}

by_next : (n : Option ℕ) → (n ≡ None) ⊎ ((x : ℕ) × (n ≡ Some x))
by_next None = inl refl
by_next (Some x) = inr (x, refl)

module _ (aperture : Aperture) (bars : List MemoryBar) (placed : List Range) (P : Placing → Type 0) where
  settled_cases : (v : Result Unit Refusal) (key : ℕ) (r : Range) → ((u : Unit {0}) → v ≡ Ok u → P (Ok (set placed key r))) → ((refusal : Refusal) → v ≡ Err refusal → P (Err (refused_key refusal key))) → P (settled v placed key r)
  settled_cases (Ok u) key r p q = p u refl
  settled_cases (Err refusal) key r p q = q refusal refl

  pub fixed_cases :
      (key : ℕ) →
      (request_at bars key ≡ Auto → P (Ok placed)) →
      ((a : ℕ) → request_at bars key ≡ Fixed a → Given aperture (get_or bars key no_bar) placed a → P (Ok (set placed key (range a (size_at bars key))))) →
      ((a : ℕ) (refusal : Refusal) → request_at bars key ≡ Fixed a → Row aperture (get_or bars key no_bar) placed refusal → P (Err (refused_key refusal key))) →
      P (fixed_step aperture bars key placed)
  fixed_cases key idle given refused =
      ⊎_elim (λ (f : request_at bars key ≡ Auto). subst P (sym (fixed_waits aperture bars placed key f)) (idle f))
      (λ f.
      let a = f.0 in
      let r = range a (size_at bars key) in
      let bar = get_or bars key no_bar in
      subst P (sym (fixed_asks aperture bars placed key a f.1)) (settled_cases (fixed_verdict aperture placed r) key r (λ u g. given a f.1 (verdict_given aperture bar placed a u f.1 g)) (λ refusal g. refused a refusal f.1 (verdict_row aperture bar placed a refusal f.1 g))))
      (by_request (request_at bars key))

  fitted_cases : (f : Option ℕ) (key size : ℕ) → Lowest aperture size placed f → ((a : ℕ) → Lowest aperture size placed (Some a) → P (Ok (set placed key (range a size)))) → (Lowest aperture size placed None → P (Err (refused_key NoPlace key))) → P (fitted placed key size f)
  fitted_cases (Some a) key size l p q = p a l
  fitted_cases None key size l p q = q l

  pub auto_cases :
      (next_of bars placed ≡ None → P (Ok placed)) →
      ((x a : ℕ) → x < key_count → Foremost bars placed x → Given aperture (get_or bars x no_bar) placed a → P (Ok (set placed x (range a (size_at bars x))))) →
      ((x : ℕ) → x < key_count → Foremost bars placed x → Row aperture (get_or bars x no_bar) placed NoPlace → P (Err (refused_key NoPlace x))) →
      P (auto_step aperture bars placed)
  auto_cases idle given refused =
      ⊎_elim (λ (f : next_of bars placed ≡ None). subst P (sym (auto_none aperture bars placed f)) (idle f))
      (λ f.
      let x = f.0 in
      let bar = get_or bars x no_bar in
      let n = next_is bars placed x f.1 in
      let auto = waits_auto bars placed x n.1.here in
      let full = waits_size bars placed x n.1.here in
      subst P (sym (auto_next aperture bars placed x f.1)) (fitted_cases (lowest_of aperture bar.size placed) x bar.size (lowest_is aperture bar.size placed) (λ a l. given x a n.0 n.1 (given_auto aperture bar placed a auto full l)) (λ l. refused x n.0 n.1 (row17 (record { automatic = auto; there = full; no_place = l })))))
      (by_next (next_of bars placed))
