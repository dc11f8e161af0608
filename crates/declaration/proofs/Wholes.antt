-- The checks after the whole file: the first fault of a function in the words of the table, and the first function that has one.
use Prim.Native.Nat.{ℕ, ◌<◌}
use mathlib.Core.Bool.{true, false}
use mathlib.Core.Logic.{◌⊎◌, inl, inr, ⊎_elim}
use mathlib.Core.Path.{◌≡◌, sym, ◌∙◌}
use Rattle.std.specs.Prelude.{Some, None, Result, Ok, Err}
use Rattle.refusal.specs.declared.refusal.Refusal.{Refusal}
use Rattle.refusal.specs.declared.refusal.Refusal.TheVariants.{BadConfigByte, RepeatedEffect, PastSpace}
use Rattle.word.proofs.Tests.{both}
use Rattle.word.proofs.Searches.{First, first_or_none, first_is, first_none}
use Rattle.address.specs.Layout.{config_space_size}
use Rattle.bar.specs.declared.range.Aperture.{Aperture}
use Rattle.capability.specs.Layout.{answer_of, layout_of, repeated_at, past_at}
use Rattle.capability.specs.Ruling.{Ruling, placed, repeated, past}
use Rattle.capability.specs.declared.layout.LayoutRefusal.{LayoutRefusal}
use Rattle.capability.proofs.Rulings.{ruling, ruling_is}
use Rattle.config.specs.ConfigByte.{byte_count, bad, byte_check_of}
use Rattle.config.specs.declared.function.Function.{Function}
use Rattle.declaration.specs.Answer.{accepted_with, refused_at, refused_with, refusal_of, first_refusal, checked_whole}
use Rattle.declaration.specs.Exactly.{bad_byte_at, FirstFault, repeated_id, past_end, bad_byte, Faultless}
use Rattle.declaration.specs.Finished.{count_in, function_at}
use Rattle.declaration.specs.Whole.{fault, fault_of, faulty}
use Rattle.declaration.specs.declared.answer.Place.TheVariants as place
use Rattle.declaration.specs.declared.finished.Finished.{Finished}

module _ (f : Function) where
  -- each fault by its own ruling
  repeated_fault : (k : ℕ) → answer_of config_space_size f.capabilities ≡ Err (repeated_at k) → fault_of f ≡ Some (fault RepeatedEffect k)
  unfolding fault_of layout_of
  repeated_fault k e = rw e

  past_fault : (k : ℕ) → answer_of config_space_size f.capabilities ≡ Err (past_at k) → fault_of f ≡ Some (fault PastSpace k)
  unfolding fault_of layout_of
  past_fault k e = rw e

  module _ (e : answer_of config_space_size f.capabilities ≡ Ok tt) where
    byte_fault_lem : (i : ℕ) → First (bad_byte_at f) (byte_count f.contents) i → fault_of f ≡ Some (fault BadConfigByte i)
    unfolding fault_of layout_of byte_check_of
    byte_fault_lem i h = rw (e, first_is bad (Ok tt) (bad_byte_at f) (byte_count f.contents) i h)

    no_fault : ((k : ℕ) → k < byte_count f.contents → bad_byte_at f k ≡ false) → fault_of f ≡ None
    unfolding fault_of layout_of byte_check_of
    no_fault h = rw (e, first_none bad (Ok tt) (bad_byte_at f) (byte_count f.contents) h)

  pub fault_is : (x : Refusal) (i : ℕ) → FirstFault f x i → fault_of f ≡ Some (fault x i)
  fault_is x i (repeated_id k r) = repeated_fault k (ruling_is config_space_size f.capabilities (Err (repeated_at k)) r)
  fault_is x i (past_end k r) = past_fault k (ruling_is config_space_size f.capabilities (Err (past_at k)) r)
  fault_is x i (bad_byte k r l e b) = byte_fault_lem (ruling_is config_space_size f.capabilities (Ok tt) r) k (record { below = l; before = b; here = e })

  pub faultless_is : Faultless f → fault_of f ≡ None
  faultless_is h = no_fault (ruling_is config_space_size f.capabilities (Ok tt) h.placed) h.bytes

  -- and a function has a first fault or none
  by_answer : (a : Result (Unit {0}) LayoutRefusal) → Ruling config_space_size f.capabilities a → ((x : Refusal) × (i : ℕ) × FirstFault f x i) ⊎ Faultless f
  by_answer a (placed s t) =
      ⊎_elim (λ h. inl (BadConfigByte, h.0, bad_byte h.0 (placed s t) h.1.below h.1.here h.1.before)) (λ h. inr (record { placed = placed s t; bytes = h })) (first_or_none (bad_byte_at f) (byte_count f.contents))
  by_answer a (repeated k h s t e) = inl (RepeatedEffect, k, repeated_id k (repeated k h s t e))
  by_answer a (past k h s t n) = inl (PastSpace, k, past_end k (past k h s t n))

  pub fault_or_none : ((x : Refusal) × (i : ℕ) × FirstFault f x i) ⊎ Faultless f
  fault_or_none = by_answer (answer_of config_space_size f.capabilities) (ruling config_space_size f.capabilities)

  -- so the answer tells
  pub accepted_faultless : fault_of f ≡ None → Faultless f
  accepted_faultless e =
      ⊎_elim (λ h. let z : Some (fault h.0 h.1) ≡ None = sym (fault_is h.0 h.1 h.2) ∙ e in absurd (cc)) (λ h. h) fault_or_none

module _ (a : Aperture) (f : Finished) where
  faultless_not : (k : ℕ) → Faultless (function_at f k) → faulty f k ≡ false
  faultless_not k h = rw (faultless_is (function_at f k) h)

  fault_faulty : (k : ℕ) (x : Refusal) (i : ℕ) → FirstFault (function_at f k) x i → faulty f k ≡ true
  fault_faulty k x i h = rw (fault_is (function_at f k) x i h)

  -- the first function with a fault gives the answer
  first_there : (k : ℕ) (x : Refusal) (i : ℕ) → k < count_in f → ((j : ℕ) → j < k → Faultless (function_at f j)) → FirstFault (function_at f k) x i → first_refusal f ≡ Some (refused_at x (place.Index (function_at f k).device i))
  unfolding first_refusal
  first_there k x i l b h =
      first_is (λ j. refusal_of (function_at f j)) None (faulty f) (count_in f) k (record { below = l; before = λ j m. faultless_not j (b j m); here = fault_faulty k x i h }) ∙ rw (fault_is (function_at f k) x i h)

  pub whole_faulty : (k : ℕ) (x : Refusal) (i : ℕ) → k < count_in f → ((j : ℕ) → j < k → Faultless (function_at f j)) → FirstFault (function_at f k) x i → checked_whole a f ≡ refused_with x (place.Index (function_at f k).device i)
  unfolding checked_whole
  whole_faulty k x i l b h = rw (first_there k x i l b h)

  first_not : ((j : ℕ) → j < count_in f → Faultless (function_at f j)) → first_refusal f ≡ None
  unfolding first_refusal
  first_not b = first_none (λ j. refusal_of (function_at f j)) None (faulty f) (count_in f) (λ j m. faultless_not j (b j m))

  pub whole_good : ((j : ℕ) → j < count_in f → Faultless (function_at f j)) → checked_whole a f ≡ accepted_with a f
  unfolding checked_whole
  whole_good b = rw (first_not b)

  -- a faultless function, by the test
  not_faultless : (k : ℕ) → faulty f k ≡ false → Faultless (function_at f k)
  not_faultless k e = ⊎_elim (λ h. absurd (both (fault_faulty k h.0 h.1 h.2) e)) (λ h. h) (fault_or_none (function_at f k))

  faulty_fault : (k : ℕ) → faulty f k ≡ true → (x : Refusal) × (i : ℕ) × FirstFault (function_at f k) x i
  faulty_fault k e = ⊎_elim (λ h. h) (λ h. absurd (both e (faultless_not k h))) (fault_or_none (function_at f k))

  -- there is a first one, or none
  pub first_faulty_lem : ((k : ℕ) × (x : Refusal) × (i : ℕ) × (k < count_in f) × ((j : ℕ) → j < k → Faultless (function_at f j)) × FirstFault (function_at f k) x i) ⊎ ((j : ℕ) → j < count_in f → Faultless (function_at f j))
  first_faulty_lem =
      ⊎_elim (λ h. let q = faulty_fault h.0 h.1.here in inl (h.0, q.0, q.1, h.1.below, (λ j m. not_faultless j (h.1.before j m)), q.2))
      (λ h. inr (λ j m. not_faultless j (h j m)))
      (first_or_none (faulty f) (count_in f))
