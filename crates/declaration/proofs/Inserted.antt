-- A function goes to its place among the finished ones, and they ascend as before.
use Prim.Native.Nat.{ℕ, ◌+◌, ◌-◌, ◌<◌, ◌≤◌}
use mathlib.Core.List.{List}
use mathlib.Core.Logic.{⊎_elim}
use mathlib.Core.Path.{◌≡◌, ◌∙◌}
use native.Mathlib.Omega.{arith}
use borrow.Author.Tests.{lt-ltb, ltb-true, ltb-false}
use lib.Dec.{ltb}
use lib.ListN.{length, get_or, length-replicate}
use Rattle.word.proofs.Searches.{Least, least_is}
use Rattle.word.proofs.Tests.{below_or_not, same_or_not}
use Rattle.address.specs.Limits.{function_room}
use Rattle.config.specs.declared.function.Function.{Function}
use Rattle.declaration.specs.Blank.{no_function}
use Rattle.declaration.specs.Finished.{function_at, opened, place_in, none_finished, finished_with}
use Rattle.declaration.specs.Good.{GoodFunction, GoodFunctions}
use Rattle.declaration.specs.declared.finished.Finished.{Finished}
use Rattle.declaration.proofs.Openings.{opened_length, opened_after, by_place}
use Rattle.declaration.proofs.Everywhere.{blank_at_lem, past_end_lem}
use Rattle.declaration.proofs.Functions.{no_function_good}

pub none_finished_good : GoodFunctions none_finished.functions none_finished.count
unfolding none_finished
none_finished_good =
    record {
      room = length-replicate function_room no_function;
      few = omega arith;
      each = λ k. rw (blank_at_lem no_function function_room k) no_function_good;
      ascends = λ j k h l. absurd (omega arith);
      past = λ k h. blank_at_lem no_function function_room k;
    }

module _ (f : Finished) (x : Function) (g : GoodFunctions f.functions f.count) (free : f.count < function_room) where
  with_is : finished_with f x ≡ record { functions = opened no_function f.functions (place_in f x.device) x; count = f.count + 1 }
  unfolding finished_with
  with_is = rw (lt-ltb f.count function_room free)

  -- its place: those before it are of lower devices, those from it on of higher ones
  abbrev place : ℕ
  place = place_in f x.device

  place_least : Least (λ k. ltb x.device (function_at f k).device) f.count place
  place_least = least_is (λ k. ltb x.device (function_at f k).device) f.count

  abbrev list : List Function
  list = opened no_function f.functions place x

  -- what is so of it and of each of the others is so of each
  with_each : (P : Function → Type 0) → P x → ((k : ℕ) → k < f.count → P (function_at f k)) → (k : ℕ) → k < f.count + 1 → P (get_or list k no_function)
  with_each P p h k l =
      by_place no_function f.functions place x k P (omega (arith, g.room)) (λ b. h k (omega (arith, place_least.most))) (λ q. p) (λ b. h (k - 1) (omega arith))

  with_past : (k : ℕ) → f.count + 1 ≤ k → get_or list k no_function ≡ no_function
  with_past k h =
      ⊎_elim (λ (l : k < length f.functions). opened_after no_function f.functions place x k l (omega (arith, place_least.most)) ∙ g.past (k - 1) (omega arith))
      (λ (l : length f.functions ≤ k). past_end_lem no_function list k (rw opened_length l))
      (below_or_not k (length f.functions))

  with_good : GoodFunction x → (k : ℕ) → GoodFunction (get_or list k no_function)
  with_good p k =
      ⊎_elim (λ (l : k < f.count + 1). with_each GoodFunction p (λ j h. g.each j) k l) (λ (l : f.count + 1 ≤ k). rw (with_past k l) no_function_good) (below_or_not k (f.count + 1))

  module _ (fresh : (k : ℕ) → k < f.count → (function_at f k).device ≡ x.device → ⊥) where
    lower : (k : ℕ) → k < place → (function_at f k).device < x.device
    lower k h =
        let b = fresh k (omega (arith, place_least.most)) in
        let c = ltb-false x.device (function_at f k).device (place_least.none k h) in
        ⊎_elim (λ (q : (function_at f k).device ≡ x.device). absurd (b q)) (λ (q : (function_at f k).device ≡ x.device → ⊥). omega arith) (same_or_not (function_at f k).device x.device)

    higher : (k : ℕ) → place ≤ k → k < f.count → x.device < (function_at f k).device
    higher k h l =
        let b = ltb-true x.device (function_at f place).device (place_least.holds (omega arith)) in
        ⊎_elim (λ (q : place < k). omega (arith, g.ascends place k q l)) (λ (q : k ≤ place). let z : k ≡ place = omega arith in rw z b) (below_or_not place k)

    with_ascends : (j k : ℕ) → j < k → k < f.count + 1 → (get_or list j no_function).device < (get_or list k no_function).device
    with_ascends j k h l =
        let lj : j < length f.functions = omega (arith, g.room) in
        let lk : k < length f.functions = omega (arith, g.room) in
        by_place no_function f.functions place x j (λ y. y.device < (get_or list k no_function).device) lj
        (λ a. by_place no_function f.functions place x k (λ y. (function_at f j).device < y.device) lk (λ b. g.ascends j k h (omega (arith, place_least.most))) (λ b. lower j a) (λ b. g.ascends j (k - 1) (omega arith) (omega arith)))
        (λ a. by_place no_function f.functions place x k (λ y. x.device < y.device) lk (λ b. absurd (omega arith)) (λ b. absurd (omega arith)) (λ b. higher (k - 1) (omega arith) (omega arith)))
        (λ a. by_place no_function f.functions place x k (λ y. (function_at f (j - 1)).device < y.device) lk (λ b. absurd (omega arith)) (λ b. absurd (omega arith)) (λ b. g.ascends (j - 1) (k - 1) (omega arith) (omega arith)))

    pub inserted_good : GoodFunction x → GoodFunctions (finished_with f x).functions (finished_with f x).count
    inserted_good p =
        rw with_is (record { room = opened_length no_function f.functions place x ∙ g.room; few = omega arith; each = with_good p; ascends = with_ascends; past = with_past })

  pub inserted_count : (finished_with f x).count ≡ f.count + 1
  inserted_count = rw with_is

  pub inserted_each : (P : Function → Type 0) → P x → ((k : ℕ) → k < f.count → P (function_at f k)) → (k : ℕ) → k < f.count + 1 → P (function_at (finished_with f x) k)
  inserted_each P p h k l = rw with_is (with_each P p h k l)
