-- An argument from a place on, by what the line has there.
use Rattle.std.specs.Prelude.{ℕ, ◌+◌, ◌≡◌, List, Option, Some, None, get_or, option_map, refl}
use borrow.Author.Tests.{eq-eqb, ne_eqb}
use Rattle.command.specs.Numeral.{numeral_of}
use Rattle.command.specs.Command.{space, word_length, word_at, argument_by, argument_at}
use Rattle.command.specs.declared.line.Argument.{Argument}

-- an argument told by its number and where the line goes on
abbrev told : ℕ → ℕ → Argument
told next value = record { value = value; next = next }

by_number : (number : Option ℕ) (next : ℕ) → option_map (told next) number ≡ argument_by number next
by_number (Some v) next = refl
by_number None next = refl

module _ (line : List ℕ) (at : ℕ) (base : ℕ) where
  -- none where no blank stands
  pub argument_unparted : (get_or line at 0 ≡ space → ⊥) → None ≡ argument_at line at base
  unfolding argument_at
  argument_unparted n = rw (ne_eqb (get_or line at 0) space n)

  -- a number, or none, after a blank
  pub argument_by_lem : (number : Option ℕ) (next : ℕ) → get_or line at 0 ≡ space → number ≡ numeral_of base (word_at line (at + 1)) → next ≡ at + 1 + word_length line (at + 1) → option_map (λ (v : ℕ). record { value = v; next = next }) number ≡ argument_at line at base
  unfolding argument_at
  argument_by_lem number next e n m = rw (eq-eqb (get_or line at 0) space e, ← n, ← m) (by_number number next)
