-- The answer to a file: the declaration, or a refusal with its place (document 01, "Refusal numbers").
use Rattle.std.specs.Prelude.{ℕ, List, length, option_map, Option, Some, None, Result, Ok, Err}
use Rattle.refusal.specs.declared.refusal.Refusal.{Refusal}
use Rattle.refusal.specs.declared.refusal.Refusal.TheVariants.{OutOfOrder}
use Rattle.word.specs.Search.{first_of}
use Rattle.address.specs.Limits.{Limits}
use Rattle.bar.specs.declared.range.Aperture.{Aperture}
use Rattle.config.specs.declared.function.Function.{Function}
use Rattle.declaration.specs.Blank.{no_aperture}
use Rattle.declaration.specs.Check.{unless_refused}
use Rattle.declaration.specs.Finished.{count_in, function_at, none_finished, finished_so_far}
use Rattle.declaration.specs.Reading.{fields_of}
use Rattle.declaration.specs.Whole.{fault_of, faulty}
use Rattle.declaration.specs.declared.finished.Finished.{Finished}
use Rattle.declaration.specs.declared.reading.Reading.{Reading}
use Rattle.declaration.specs.declared.whole.Fault.{Fault}
use Rattle.declaration.specs.declared.answer.Place.{Place}
use Rattle.declaration.specs.declared.answer.Place.TheVariants as place
use Rattle.declaration.specs.declared.answer.Declaration.{Declaration}
use Rattle.declaration.specs.declared.answer.DeclarationRefusal.{DeclarationRefusal}

-- a bus as it is declared
abbrev pub declaration_with : Aperture → Finished → Declaration
declaration_with a f = record { aperture = a; functions = f.functions; count = f.count }

-- no functions, and an aperture of no addresses, which no file declares
abbrev pub no_declaration : Declaration
no_declaration = declaration_with no_aperture none_finished

abbrev pub refused_at : Refusal → Place → DeclarationRefusal
refused_at refusal p = record { refusal = refusal; place = p }

abbrev pub refused_with : Refusal → Place → Result Declaration DeclarationRefusal
refused_with refusal p = Err (refused_at refusal p)

-- a function with a fault is refused with its device and the index of the fault
abbrev pub refused_fault : Function → Fault → DeclarationRefusal
refused_fault x fault = refused_at fault.refusal (place.Index x.device fault.index)

abbrev pub refusal_of : Function → Option DeclarationRefusal
refusal_of x = option_map (refused_fault x) (fault_of x)

abbrev pub accepted_with : Aperture → Finished → Result Declaration DeclarationRefusal
accepted_with a f = Ok (declaration_with a f)

-- "for each device ascending": that of the first function with a fault
unfoldable pub first_refusal : Finished → Option DeclarationRefusal
first_refusal f = first_of (λ k. refusal_of (function_at f k)) None (faulty f) (count_in f)

-- what an answer declares: nothing where it is refused
abbrev pub declaration_given : Result Declaration DeclarationRefusal → Declaration
declaration_given (Ok d) = d
declaration_given (Err e) = no_declaration

-- after the whole file
unfoldable pub checked_whole : Aperture → Finished → Result Declaration DeclarationRefusal
checked_whole a f = unless_refused (first_refusal f) (declaration_with a f)

-- "file ends with no aperture (place: its length)", which is `end`
abbrev pub ended_with : ℕ → Finished → Option Aperture → Result Declaration DeclarationRefusal
ended_with end f (Some a) = checked_whole a f
ended_with end f None = refused_with OutOfOrder (place.Offset end)

-- "The first bad field decides"
abbrev pub declared_after : ℕ → Reading → Option Refusal → Result Declaration DeclarationRefusal
declared_after end r (Some refusal) = refused_with refusal (place.Offset r.at)
declared_after end r None = ended_with end (finished_so_far r.finished r.now) r.now.aperture

unfoldable pub declared_from : ℕ → Reading → Result Declaration DeclarationRefusal
declared_from end r = declared_after end r r.refusal

unfoldable pub declared_by : Limits → List ℕ → Result Declaration DeclarationRefusal
declared_by l file = declared_from (length file) (fields_of l file)
