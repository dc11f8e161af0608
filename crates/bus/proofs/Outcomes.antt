-- What a file starts: by the declaration's answer, and then by placement's.
use Prim.Native.Nat.{ℕ}
use mathlib.Core.Bool.{true}
use mathlib.Core.List.{List}
use mathlib.Core.Path.{◌≡◌, refl, sym, ap, ◌∙◌}
use Rattle.std.specs.Prelude.{is_ok, Result, Ok, Err}
use Rattle.refusal.specs.declared.refusal.Refusal.{Refusal}
use Rattle.word.proofs.Tests.{both}
use Rattle.address.specs.Limits.{Limits}
use Rattle.placement.specs.Answer.{Placement, addresses_given}
use Rattle.declaration.specs.Answer.{refused_at, declared_by, declaration_given}
use Rattle.declaration.specs.declared.answer.Declaration.{Declaration}
use Rattle.declaration.specs.declared.answer.DeclarationRefusal.{DeclarationRefusal}
use Rattle.declaration.specs.declared.answer.Place.{Place}
use Rattle.declaration.specs.declared.answer.Place.TheVariants as place
use Rattle.bus.specs.Start.{placement_in, addresses_in, refused_start, placed_start, start_declared, start_answered, start_of}
use Rattle.bus.specs.Outcome.{declaration_of, by_declaration, by_placement, Outcome, accepted, refused, Refused, Accepted}
use Rattle.bus.specs.declared.state.Bus.{Bus}

module _ (l : Limits) (file : List ℕ) where
  by_placed : (p : Placement) → declared_by l file ≡ Ok (declaration_of l file) → placement_in (declaration_of l file) ≡ p → Outcome l file (placed_start (declaration_of l file) p)
  by_placed (Ok addresses) h e =
      let q : addresses_in (declaration_of l file) ≡ addresses = ap addresses_given e in
      rw (← q) (accepted h (e ∙ ap Ok (sym q)))
  by_placed (Err r) h e = refused r.refusal (place.Index r.device r.slot) (by_placement r h e)

  by_declared : (d : Result Declaration DeclarationRefusal) → declared_by l file ≡ d → Outcome l file (start_answered d)
  unfolding start_declared
  by_declared (Ok d) h =
      let q : declaration_of l file ≡ d = ap declaration_given h in
      rw (← q) (by_placed (placement_in (declaration_of l file)) (h ∙ ap Ok (sym q)) refl)
  by_declared (Err e) h = refused e.refusal e.place (by_declaration e.refusal e.place h)

  pub start_outcome : Outcome l file (start_of l file)
  unfolding start_of
  start_outcome = by_declared (declared_by l file) refl

  -- a refused file leaves the empty bus, and the answer says why
  when_refused : (s : Result Bus DeclarationRefusal) (r : Refusal) (p : Place) → Outcome l file s → start_of l file ≡ s → s ≡ refused_start r p → Refused l file r p
  when_refused s r p (accepted h e) t q = absurd (cc)
  when_refused s r p (refused n o w) t q =
      let z : refused_at n o ≡ refused_at r p = cc in
      let a : n ≡ r = ap (λ (x : DeclarationRefusal). x.refusal) z in
      let c : o ≡ p = ap (λ (x : DeclarationRefusal). x.place) z in
      record { bus = rw t; why = rw (a, c) at w }

  pub start_refused : (r : Refusal) (p : Place) → start_of l file ≡ refused_start r p → Refused l file r p
  start_refused r p e = when_refused (start_of l file) r p start_outcome refl e

  -- an accepted file passed both
  when_accepted : (s : Result Bus DeclarationRefusal) → Outcome l file s → start_of l file ≡ s → is_ok s ≡ true → Accepted l file
  when_accepted s (accepted h e) t q = record { declared = h; placed = e; bus = rw t }
  when_accepted s (refused n o w) t q = absurd (both q refl)

  pub start_accepted : is_ok (start_of l file) ≡ true → Accepted l file
  start_accepted e = when_accepted (start_of l file) start_outcome refl e
