-- Reset exactly: on a sound bus 20 is answered with the lowest device whose revision is at its largest, and all restored where there is none.
use Prim.Native.Nat.{ℕ, ◌<◌, ◌≤◌}
use mathlib.Core.Bool.{true}
use mathlib.Core.Logic.{⊎_elim}
use mathlib.Core.Path.{◌≡◌, refl, ap, subst}
use native.Mathlib.Omega.{arith}
use borrow.Author.Tests.{eqb-true, eq-eqb}
use Rattle.word.proofs.Searches.{First, first_or_none, first_is, first_none}
use Rattle.word.proofs.Tests.{below_or_not, same_or_not, both}
use Rattle.config.specs.Command.{largest_revision}
use Rattle.declaration.specs.declared.answer.Declaration.{Declaration}
use Rattle.bus.specs.Bus.{count_on, device_at, function_at}
use Rattle.bus.specs.Reset.{spent_at, exhausted_by, reset_answer, bus_reset_of}
use Rattle.bus.specs.Sound.{Sound}
use Rattle.bus.specs.Spent.{Spent, ResetSays}
use Rattle.bus.specs.declared.bus_reset.Exhausted.{Exhausted}
use Rattle.std.proofs.Common.{Result, Ok, Err}
use Rattle.bus.specs.declared.state.Bus.{Bus}

-- a spent device is spent at its index
spent_at_lem : (b : Bus) (device : ℕ) (p : Spent b device) → spent_at b p.index ≡ true
spent_at_lem b device p = eq-eqb (function_at b p.index).revision largest_revision p.largest

-- only one answer says what is so
says_one : (b : Bus) (r q : Result Unit Exhausted) → ResetSays b r → ResetSays b q → r ≡ q
says_one b (Err x) (Err y) p q = let e : x.0 ≡ y.0 = omega (arith, p.lowest y.0 q.spent, q.lowest x.0 p.spent) in ap exhausted_by e
says_one b (Err x) (Ok t) p q = absurd (q x.0 p.spent)
says_one b (Ok t) (Err y) p q = absurd (p y.0 q.spent)
says_one b (Ok t) (Ok u) p q = refl

module _ (d : Declaration) (b : Bus) (s : Sound d b) where
  -- devices ascend, so the first is the lowest
  first_lowest : (k : ℕ) → First (spent_at b) (count_on b) k → (other : ℕ) → Spent b other → device_at b k ≤ other
  first_lowest k f other p =
      let m = p.index in
      let e = p.its in
      let l = p.there in
      ⊎_elim (λ (h : m < k). absurd (both (spent_at_lem b other p) (f.before m h)))
      (λ (h : k ≤ m). ⊎_elim (λ (q : m ≡ k). rw (← q, e) (omega arith)) (λ (q : m ≡ k → ⊥). omega (arith, s.ascends k m (omega arith) (omega arith))) (same_or_not m k))
      (below_or_not m k)

  answer_says : ResetSays b (reset_answer b)
  answer_says =
      ⊎_elim
      (λ r.
      let k = r.0 in
      let f = r.1 in
      rw (first_is (λ k. exhausted_by (device_at b k)) (Ok tt) (spent_at b) (count_on b) k f)
      (record { spent = record { index = k; there = f.below; its = refl; largest = eqb-true (function_at b k).revision largest_revision f.here }; lowest = first_lowest k f }))
      (λ h.
      rw (first_none (λ k. exhausted_by (device_at b k)) (Ok tt) (spent_at b) (count_on b) h)
      (λ device p. both (spent_at_lem b device p) (h p.index p.there)))
      (first_or_none (spent_at b) (count_on b))

  -- what the answer says is so, and whatever is so is the answer
  pub reset_says : (r : Result Unit Exhausted) → (bus_reset_of b).answer ≡ r → ResetSays b r
  unfolding bus_reset_of
  reset_says r e = subst (λ (r : Result Unit Exhausted). ResetSays b r) e answer_says

  pub says_reset : (r : Result Unit Exhausted) → ResetSays b r → (bus_reset_of b).answer ≡ r
  unfolding bus_reset_of
  says_reset r p = says_one b (reset_answer b) r answer_says p
