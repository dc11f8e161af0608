-- `placement_of` answers as it is to, and no other answer would do: both passes keep it so, and two such answers are one.
use Prim.Native.Nat.{ℕ, ◌<◌, ◌/◌, ◌%◌}
use mathlib.Core.Bool.{true, false}
use mathlib.Core.List.{List}
use mathlib.Core.Logic.{⊎_elim}
use mathlib.Core.Path.{◌≡◌, ap}
use native.Mathlib.Omega.{arith}
use lib.ListN.{get_or}
use Rattle.std.specs.Prelude.{Ok, Err}
use Rattle.refusal.specs.declared.refusal.Refusal.{Refusal}
use Rattle.word.proofs.Tests.{below_or_not, true_or_false, both}
use Rattle.word.proofs.Tables.{length_table}
use Rattle.address.specs.Layout.{bar_count}
use Rattle.bar.specs.Bar.{no_bar}
use Rattle.bar.specs.declared.range.Range.{Range}
use Rattle.bar.specs.declared.range.Aperture.{Aperture}
use Rattle.bar.specs.declared.memory_bar.MemoryBar.{MemoryBar}
use Rattle.placement.specs.Keys.{key_count, bars_of}
use Rattle.placement.specs.Place.{no_range}
use Rattle.placement.specs.Order.{size_at, placed_before}
use Rattle.placement.specs.Passes.{Placing, fixed_after, auto_after, placing_of}
use Rattle.placement.specs.Answer.{Placement, addresses_of, device_of, refused_at, answered, placement_of}
use Rattle.placement.specs.Outcome.{GivenAt, AllGiven, FirstRefused, Outcome, all_given, one_refused}
use Rattle.placement.specs.declared.declared_bars.DeclaredBars.{DeclaredBars}
use Rattle.placement.specs.declared.answer.PlacementRefusal.{PlacementRefusal}
use Rattle.placement.proofs.Waits.{is_waiting}
use Rattle.placement.proofs.Rules.{given_none}
use Rattle.placement.proofs.Sounds.{Sound, address_at}
use Rattle.placement.proofs.FixedPass.{Kept, kept_onward, fixed_below, fixed_kept}
use Rattle.placement.proofs.Agrees.{refused_key, refused_reason, given_not_refused, given_addresses}
use Rattle.placement.proofs.AutoPass.{done_in, not_done, Ahead, ahead_first, auto_kept, all_done}

module _ (aperture : Aperture) (bars : List MemoryBar) where
  -- where nothing is left every key has its address
  all_have : (placed : List Range) → Ahead aperture bars key_count placed → AllGiven aperture bars (addresses_of placed)
  unfolding addresses_of
  all_have placed a =
      record { long = length_table key_count (λ key. (get_or placed key no_range).start); given = λ k h. ⊎_elim (λ (t : done_in aperture bars placed k ≡ true). a.sound.given k h t) (λ (t : done_in aperture bars placed k ≡ false). no_bar_lem k h t) (true_or_false (done_in aperture bars placed k)) }
    where
      no_bar_lem : (k : ℕ) → k < key_count → done_in aperture bars placed k ≡ false → GivenAt aperture bars (addresses_of placed) k
      no_bar_lem k h t =
          let d = not_done aperture bars placed k t in
          let empty : size_at bars k ≡ 0 = ⊎_elim (λ (z : 0 < size_at bars k). absurd (both (is_waiting bars placed k d.0 z d.1) (all_done aperture bars placed a k h))) (λ z. omega arith) (below_or_not 0 (size_at bars k)) in
          rw (address_at placed k h, a.sound.blank k h t) (given_none aperture (get_or bars k no_bar) (placed_before bars (addresses_of placed) k) d.0 empty)

  passes_kept : Kept aperture bars (λ placed. AllGiven aperture bars (addresses_of placed)) (placing_of aperture bars)
  unfolding placing_of
  passes_kept =
      let X = Sound aperture bars (fixed_below aperture bars key_count) in
      let Y : List Range → Type 0 = λ placed. AllGiven aperture bars (addresses_of placed) in
      kept_onward aperture bars X Y (λ placed. auto_after aperture bars placed key_count) (fixed_after aperture bars key_count) (fixed_kept aperture bars key_count (omega arith))
      (λ placed s. kept_same (auto_after aperture bars placed key_count) (auto_kept aperture bars placed key_count (ahead_first aperture bars placed s)))
    where
      kept_same : (s : Placing) → Kept aperture bars (Ahead aperture bars key_count) s → Kept aperture bars (λ placed. AllGiven aperture bars (addresses_of placed)) s
      kept_same (Ok placed) a = all_have placed a
      kept_same (Err e) f = f

module _ (aperture : Aperture) (d : DeclaredBars) where
  by_placing : (s : Placing) → Kept aperture (bars_of d) (λ placed. AllGiven aperture (bars_of d) (addresses_of placed)) s → Outcome aperture d (answered d s)
  by_placing (Ok placed) a = all_given (addresses_of placed) a
  by_placing (Err e) f = one_refused e.refusal e.key f

  -- the answer is as it is to be
  pub placement_outcome : Outcome aperture d (placement_of aperture d)
  unfolding placement_of
  placement_outcome = by_placing (placing_of aperture (bars_of d)) (passes_kept aperture (bars_of d))

  same_refusal : (refusal m : Refusal) (key k : ℕ) → key ≡ k → refusal ≡ m → ◌≡◌ {A = Placement} (Err (refused_at d refusal key)) (Err (refused_at d m k))
  same_refusal refusal m key k e f = rw (e, f)

  -- and two such answers are one
  pub outcome_unique : (p q : Placement) → Outcome aperture d p → Outcome aperture d q → p ≡ q
  outcome_unique p q (all_given a f) (all_given b g) = ap Ok (given_addresses aperture (bars_of d) a b f g)
  outcome_unique p q (all_given a f) (one_refused m k g) = absurd (given_not_refused aperture (bars_of d) m k a g f)
  outcome_unique p q (one_refused refusal key f) (all_given b g) = absurd (given_not_refused aperture (bars_of d) refusal key b f g)
  outcome_unique p q (one_refused refusal key f) (one_refused m k g) =
      let e = refused_key aperture (bars_of d) refusal m key k f g in
      same_refusal refusal m key k e (refused_reason aperture (bars_of d) refusal m k (rw e at f) g)

  -- accepted exactly when every BAR has its address
  pub accepted_when : (addresses : List ℕ) → AllGiven aperture (bars_of d) addresses → placement_of aperture d ≡ Ok addresses
  accepted_when addresses a = outcome_unique (placement_of aperture d) (Ok addresses) placement_outcome (all_given addresses a)

  pub when_accepted : (addresses : List ℕ) → placement_of aperture d ≡ Ok addresses → AllGiven aperture (bars_of d) addresses
  when_accepted addresses = from (placement_of aperture d) placement_outcome
    where
      from : (p : Placement) → Outcome aperture d p → p ≡ Ok addresses → AllGiven aperture (bars_of d) addresses
      from p (all_given a f) e = let q : a ≡ addresses = cc in rw (← q) f
      from p (one_refused m k g) e = cc

  -- refused with a reason and a place exactly when the BAR there is refused by that reason's row, and all placed before it can have their addresses
  pub refused_when : (refusal : Refusal) (key : ℕ) → FirstRefused aperture (bars_of d) refusal key → placement_of aperture d ≡ Err (refused_at d refusal key)
  refused_when refusal key f = outcome_unique (placement_of aperture d) (Err (refused_at d refusal key)) placement_outcome (one_refused refusal key f)

  pub when_refused : (r : PlacementRefusal) → placement_of aperture d ≡ Err r → (key : ℕ) × FirstRefused aperture (bars_of d) r.refusal key × (r.device ≡ device_of d (key / bar_count)) × (r.slot ≡ key % bar_count)
  when_refused r = from (placement_of aperture d) placement_outcome
    where
      from : (p : Placement) → Outcome aperture d p → p ≡ Err r → (key : ℕ) × FirstRefused aperture (bars_of d) r.refusal key × (r.device ≡ device_of d (key / bar_count)) × (r.slot ≡ key % bar_count)
      from p (all_given a f) e = cc
      from p (one_refused m k g) e = let q : refused_at d m k ≡ r = cc in (k, rw (← q) g, rw (← q), rw (← q))
