-- The examples compute, and the Run case prints its four lines.
use mathlib.Core.Bool.{true}
use mathlib.Core.List.{List, []}
use mathlib.Core.Path.{◌≡◌, refl, ap}
use Prim.Native.Nat.{ℕ}
use lib.ListN.{get_or}
use Rattle.bus.proofs.RunCase.{run_case}
use Rattle.word.specs.Search.{first_below}
use Rattle.text.specs.Numeral.{hex_of, decimal_length, decimal_of}
use Rattle.text.specs.Part.{parts_below}
use Rattle.text.specs.Line.{column, aperture_line, device_text, bar_line, place_text, refused_line}
use Rattle.text.specs.Text.{accepted_text, shown_of, answer_text, text_of}
use Rattle.bus.specs.Run.{run_file}
use Rattle.bus.specs.Start.{bus_given, start_of}
use Rattle.bus.specs.declared.state.Bus.{Bus}
use Rattle.declaration.specs.declared.answer.DeclarationRefusal.{DeclarationRefusal}
use Rattle.std.specs.Prelude.{is_ok, Result, Ok, Err}
use Rattle.word.proofs.Tests.{both}
use Rattle.address.specs.Limits.{limits}
use Rattle.text.specs.Examples.{run, RunPrints, asked, told}

pub examples_hold : asked ≡ told
unfolding asked told first_below hex_of decimal_length decimal_of column aperture_line device_text bar_line place_text refused_line parts_below accepted_text
examples_hold = refl

-- what is shown of the bus that its file starts
run_shown : shown_of (bus_given (start_of limits run_file)) ≡ run
unfolding shown_of
run_shown = let r = run_case.1 in rw (r.aperture, r.devices, r.ranges)

-- an accepted answer shows its bus
shown : (s : Result Bus DeclarationRefusal) → is_ok s ≡ true → answer_text s ≡ accepted_text (shown_of (bus_given s))
shown (Ok b) e = refl
shown (Err r) e = absurd (both e refl)

pub run_prints : RunPrints
unfolding text_of asked told
run_prints = rw (shown (start_of limits run_file) run_case.1.accepted, run_shown) (ap (λ (texts : List (List ℕ)). get_or texts 0 []) examples_hold)
