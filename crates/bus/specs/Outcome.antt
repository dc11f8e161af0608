-- What a file starts, said by what its declaration and its placement answer. proofs/Outcomes.antt shows that `start_of` is this.
use Rattle.std.specs.Prelude.{ℕ, List, ◌≡◌, Result, Ok, Err}
use Rattle.refusal.specs.declared.refusal.Refusal.{Refusal}
use Rattle.address.specs.Limits.{Limits}
use Rattle.placement.specs.declared.answer.PlacementRefusal.{PlacementRefusal}
use Rattle.declaration.specs.Answer.{refused_with, declared_by, declaration_given}
use Rattle.declaration.specs.declared.answer.Declaration.{Declaration}
use Rattle.declaration.specs.declared.answer.DeclarationRefusal.{DeclarationRefusal}
use Rattle.declaration.specs.declared.answer.Place.{Place}
use Rattle.declaration.specs.declared.answer.Place.TheVariants as place
use Rattle.bus.specs.Bus.{empty_bus}
use Rattle.bus.specs.Start.{placement_in, addresses_in, refused_start, bus_given, start_of}
use Rattle.bus.specs.Sound.{started_bus}
use Rattle.bus.specs.declared.state.Bus.{Bus}

-- what a file declares
abbrev pub declaration_of : Limits → List ℕ → Declaration
declaration_of l file = declaration_given (declared_by l file)

-- why a file is refused: by the declaration, with its refusal and place, or by placement, with its refusal, device and slot
pub data RefusedBy (l : Limits) (file : List ℕ) : Refusal → Place → Type 0 where
  by_declaration : (r : Refusal) (p : Place) → declared_by l file ≡ refused_with r p → RefusedBy l file r p
  by_placement : (e : PlacementRefusal) → declared_by l file ≡ Ok (declaration_of l file) → placement_in (declaration_of l file) ≡ Err e → RefusedBy l file e.refusal (place.Index e.device e.slot)

-- accepted, with the bus of the declaration; or refused
pub data Outcome (l : Limits) (file : List ℕ) : Result Bus DeclarationRefusal → Type 0 where
  accepted : declared_by l file ≡ Ok (declaration_of l file) → placement_in (declaration_of l file) ≡ Ok (addresses_in (declaration_of l file)) → Outcome l file (Ok (started_bus (declaration_of l file)))
  refused : (r : Refusal) (p : Place) → RefusedBy l file r p → Outcome l file (refused_start r p)

-- what a refused start says: "Refusals 1 to 17 leave a bus with no functions and no aperture."
pub record Refused (l : Limits) (file : List ℕ) (r : Refusal) (p : Place) : Type 0 where
  pub bus : bus_given (start_of l file) ≡ empty_bus
  pub why : RefusedBy l file r p

-- what an accepted start says
pub record Accepted (l : Limits) (file : List ℕ) : Type 0 where
  pub declared : declared_by l file ≡ Ok (declaration_of l file)
  pub placed : placement_in (declaration_of l file) ≡ Ok (addresses_in (declaration_of l file))
  pub bus : bus_given (start_of l file) ≡ started_bus (declaration_of l file)
