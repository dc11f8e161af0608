-- The second pass from its first step on, for worked examples: a pass with nothing left stays as it is.
use Prim.Native.Nat.{ℕ, zero, suc}
use mathlib.Core.List.{List}
use mathlib.Core.Path.{◌≡◌, refl, sym, ap, ◌∙◌}
use lib.ListN.{set}
use Rattle.std.specs.Prelude.{Some, None, Ok, Err}
use Rattle.refusal.specs.declared.refusal.Refusal.TheVariants.{NoPlace}
use Rattle.placement.specs.Keys.{key_count, bars_of}
use Rattle.placement.specs.Answer.{answered, placement_of}
use Rattle.placement.specs.declared.declared_bars.DeclaredBars.{DeclaredBars}
use Rattle.bar.specs.Range.{range}
use Rattle.bar.specs.declared.range.Range.{Range}
use Rattle.bar.specs.declared.range.Aperture.{Aperture}
use Rattle.bar.specs.declared.memory_bar.MemoryBar.{MemoryBar}
use Rattle.placement.specs.Place.{Lowest}
use Rattle.placement.specs.Order.{size_at}
use Rattle.placement.specs.Passes.{Placing, refused_key, onward, fixed_after, next_of, fitted, auto_step, auto_after, placing_of}
use Rattle.placement.specs.declared.placing.KeyRefusal.{KeyRefusal}
use Rattle.placement.proofs.Places.{is_lowest}
use Rattle.placement.proofs.Steps.{auto_none, auto_next}

module _ (aperture : Aperture) (bars : List MemoryBar) (placed : List Range) where
  -- the first step, then the others
  from_first : (n : ℕ) → auto_after aperture bars placed (suc n) ≡ onward (λ next. auto_after aperture bars next n) (auto_step aperture bars placed)
  unfolding auto_after
  from_first zero = by_step (auto_step aperture bars placed)
    where
      by_step : (s : Placing) → s ≡ onward (λ next. Ok next) s
      by_step (Ok next) = refl
      by_step (Err e) = refl
  from_first (suc n) = ap (onward (auto_step aperture bars)) (from_first n) ∙ by_step (auto_step aperture bars placed)
    where
      by_step : (s : Placing) → onward (auto_step aperture bars) (onward (λ next. auto_after aperture bars next n) s) ≡ onward (λ next. auto_after aperture bars next (suc n)) s
      by_step (Ok next) = refl
      by_step (Err e) = refl

  -- nothing is left
  pub run_done : (n : ℕ) → next_of bars placed ≡ None → auto_after aperture bars placed n ≡ Ok placed
  unfolding auto_after
  run_done zero e = refl
  run_done (suc n) e = ap (onward (auto_step aperture bars)) (run_done n e) ∙ auto_none aperture bars placed e

  -- the next one takes the lowest place
  pub run_placed : (n x a : ℕ) → next_of bars placed ≡ Some x → Lowest aperture (size_at bars x) placed (Some a) → auto_after aperture bars placed (suc n) ≡ auto_after aperture bars (set placed x (range a (size_at bars x))) n
  run_placed n x a e l =
      from_first n ∙
      ap (onward (λ next. auto_after aperture bars next n)) (auto_next aperture bars placed x e ∙ ap (fitted placed x (size_at bars x)) (sym (is_lowest aperture (size_at bars x) placed (Some a) l)))

  -- or is refused
  pub run_refused : (n x : ℕ) → next_of bars placed ≡ Some x → Lowest aperture (size_at bars x) placed None → auto_after aperture bars placed (suc n) ≡ Err (refused_key NoPlace x)
  run_refused n x e l =
      from_first n ∙
      ap (onward (λ next. auto_after aperture bars next n)) (auto_next aperture bars placed x e ∙ ap (fitted placed x (size_at bars x)) (sym (is_lowest aperture (size_at bars x) placed None l)))

module _ (aperture : Aperture) (d : DeclaredBars) where
  -- the answer from both passes
  pub answer_from : (placed : List Range) (t : Placing) → fixed_after aperture (bars_of d) key_count ≡ Ok placed → auto_after aperture (bars_of d) placed key_count ≡ t → placement_of aperture d ≡ answered d t
  unfolding placement_of placing_of
  answer_from placed t e f =
      ap (answered d) (ap (onward (λ now. auto_after aperture (bars_of d) now key_count)) e ∙ f)

  -- a refusal of the first pass
  pub answer_stopped : (e : KeyRefusal) → fixed_after aperture (bars_of d) key_count ≡ Err e → placement_of aperture d ≡ answered d (Err e)
  unfolding placement_of placing_of
  answer_stopped e q = ap (answered d) (ap (onward (λ now. auto_after aperture (bars_of d) now key_count)) q)
