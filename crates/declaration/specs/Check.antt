-- Checks in their order: the first that fails gives its refusal.
use Rattle.std.specs.Prelude.{Bool, cond, List, [], ◌∷◌, Option, Some, None, Result, Ok, Err}
use Rattle.refusal.specs.declared.refusal.Refusal.{Refusal}

-- a refusal of document 01's table, and whether its row holds
infix 20 ◌when◌
pub data Check : Type 0 where
  ◌when◌ : Refusal → Bool → Check

abbrev pub first_or : Option Refusal → Check → Option Refusal
first_or later (r when fails) = cond fails (Some r) later

-- the refusal of the first one that fails
abbrev pub first_failing : List Check → Option Refusal
first_failing [] = None
first_failing (c ∷ cs) = first_or (first_failing cs) c

-- what nothing refuses, or the refusal
abbrev pub unless_refused : {A E : Type 0} → Option E → A → Result A E
unless_refused None a = Ok a
unless_refused (Some e) a = Err e
