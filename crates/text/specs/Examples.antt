-- The Run case and the two refusals that document 01 shows, as one statement over a list (proofs/Examples.antt proves it).
use Rattle.std.specs.Prelude.{ℕ, List, [], ◌∷◌, ◌++◌, ◌≡◌, replicate, Err}
use Rattle.refusal.specs.declared.refusal.Refusal.TheVariants.{BadForm, OverlapsPlaced}
use Rattle.declaration.specs.Answer.{refused_at}
use Rattle.declaration.specs.declared.answer.Place.TheVariants.{Offset, Index}
use Rattle.bus.specs.Run.{run_ranges, run_file}
use Rattle.text.specs.Text.{accepted_text, answer_text, text_of}
use Rattle.text.specs.declared.shown.Shown.{Shown}

-- devices 3 and 5, with their BARs where placement puts them
abbrev pub run : Shown
run =
    record {
      aperture = record { start = 0x80000000; end = 0x80010000 };
      devices = 3 ∷ 5 ∷ replicate 6 0;
      ranges = run_ranges;
    }

-- the bytes of what document 01 prints
-- "aperture 080000000 080010000"
abbrev pub run_first : List ℕ
run_first = 97 ∷ 112 ∷ 101 ∷ 114 ∷ 116 ∷ 117 ∷ 114 ∷ 101 ∷ 32 ∷ 48 ∷ 56 ∷ 48 ∷ 48 ∷ 48 ∷ 48 ∷ 48 ∷ 48 ∷ 48 ∷ 32 ∷ 48 ∷ 56 ∷ 48 ∷ 48 ∷ 49 ∷ 48 ∷ 48 ∷ 48 ∷ 48 ∷ 10 ∷ []

-- "03.0 80001000 000001000"
abbrev pub run_second : List ℕ
run_second = 48 ∷ 51 ∷ 46 ∷ 48 ∷ 32 ∷ 56 ∷ 48 ∷ 48 ∷ 48 ∷ 49 ∷ 48 ∷ 48 ∷ 48 ∷ 32 ∷ 48 ∷ 48 ∷ 48 ∷ 48 ∷ 48 ∷ 49 ∷ 48 ∷ 48 ∷ 48 ∷ 10 ∷ []

-- "03.1 80000000 000001000"
abbrev pub run_third : List ℕ
run_third = 48 ∷ 51 ∷ 46 ∷ 49 ∷ 32 ∷ 56 ∷ 48 ∷ 48 ∷ 48 ∷ 48 ∷ 48 ∷ 48 ∷ 48 ∷ 32 ∷ 48 ∷ 48 ∷ 48 ∷ 48 ∷ 48 ∷ 49 ∷ 48 ∷ 48 ∷ 48 ∷ 10 ∷ []

-- "05.0 80004000 000004000"
abbrev pub run_fourth : List ℕ
run_fourth = 48 ∷ 53 ∷ 46 ∷ 48 ∷ 32 ∷ 56 ∷ 48 ∷ 48 ∷ 48 ∷ 52 ∷ 48 ∷ 48 ∷ 48 ∷ 32 ∷ 48 ∷ 48 ∷ 48 ∷ 48 ∷ 48 ∷ 52 ∷ 48 ∷ 48 ∷ 48 ∷ 10 ∷ []

-- "refused 16 03.1"
abbrev pub refused_bar : List ℕ
refused_bar = 114 ∷ 101 ∷ 102 ∷ 117 ∷ 115 ∷ 101 ∷ 100 ∷ 32 ∷ 49 ∷ 54 ∷ 32 ∷ 48 ∷ 51 ∷ 46 ∷ 49 ∷ 10 ∷ []

-- "refused 2 19"
abbrev pub refused_field : List ℕ
refused_field = 114 ∷ 101 ∷ 102 ∷ 117 ∷ 115 ∷ 101 ∷ 100 ∷ 32 ∷ 50 ∷ 32 ∷ 49 ∷ 57 ∷ 10 ∷ []

-- the Run case whole, from the bytes of its file to the bytes that are printed
abbrev pub run_text : List ℕ
run_text = run_first ++ run_second ++ run_third ++ run_fourth

abbrev pub RunPrints : Type 0
RunPrints = text_of run_file ≡ run_text

unfoldable pub asked : List (List ℕ)
asked = accepted_text run ∷ answer_text (Err (refused_at OverlapsPlaced (Index 3 1))) ∷ answer_text (Err (refused_at BadForm (Offset 19))) ∷ []

unfoldable pub told : List (List ℕ)
told = run_text ∷ refused_bar ∷ refused_field ∷ []
