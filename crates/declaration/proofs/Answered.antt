-- Each answer says its outcome: what `Outcomes` shows, read from the answer back.
use Prim.Native.Nat.{ℕ}
use mathlib.Core.Bool.{true}
use mathlib.Core.List.{List}
use mathlib.Core.Path.{◌≡◌, refl, ap}
use Rattle.std.specs.Prelude.{is_ok, Result, Err, Ok}
use Rattle.refusal.specs.declared.refusal.Refusal.{Refusal}
use Rattle.word.proofs.Tests.{both}
use Rattle.address.specs.Limits.{Limits}
use Rattle.bar.specs.declared.range.Aperture.{Aperture}
use Rattle.declaration.specs.Answer.{declaration_with, refused_at, refused_with, no_declaration, declared_by, declaration_given}
use Rattle.declaration.specs.Exactly.{RefusedAt, FaultyAt, Passed, Outcome, at_offset, at_index, passed}
use Rattle.declaration.specs.declared.answer.Declaration.{Declaration}
use Rattle.declaration.specs.declared.answer.DeclarationRefusal.{DeclarationRefusal}
use Rattle.declaration.specs.declared.answer.Place.{Place}
use Rattle.declaration.specs.declared.answer.Place.TheVariants as place
use Rattle.declaration.specs.declared.finished.Finished.{Finished}
use Rattle.declaration.proofs.Outcomes.{outcome}

-- an answer that is no refusal is what it declares
pub ok_given : (d : Result Declaration DeclarationRefusal) → is_ok d ≡ true → d ≡ Ok (declaration_given d)
ok_given (Ok d) e = refl
ok_given (Err r) e = absurd (both e refl)

-- a file that is accepted, with what it declares
pub record Accepted (l : Limits) (file : List ℕ) (d : Declaration) : Type 0 where
  pub aperture : Aperture
  pub functions : Finished
  pub passes : Passed l file aperture functions
  pub declares : d ≡ declaration_with aperture functions

module _ (l : Limits) (file : List ℕ) where
  same_refusal : (r s : Refusal) (p q : Place) → refused_with r p ≡ refused_with s q → (r ≡ s) × (p ≡ q)
  same_refusal r s p q e = let z : refused_at r p ≡ refused_at s q = cc in (ap (λ (x : DeclarationRefusal). x.refusal) z, ap (λ (x : DeclarationRefusal). x.place) z)

  of_offset : (r : Refusal) (p : ℕ) (d : Result Declaration DeclarationRefusal) → Outcome l file d → d ≡ refused_with r (place.Offset p) → RefusedAt l file r p
  of_offset r p d (at_offset m q h) e =
      let s = same_refusal m r (place.Offset q) (place.Offset p) e in
      let z = s.1 in
      let t : q ≡ p = cc in
      rw (s.0, t) at h
  of_offset r p d (at_index m device index h) e = let s = (same_refusal m r (place.Index device index) (place.Offset p) e).1 in absurd (cc)
  of_offset r p d (passed a f h) e = absurd (cc)

  of_index : (r : Refusal) (device index : ℕ) (d : Result Declaration DeclarationRefusal) → Outcome l file d → d ≡ refused_with r (place.Index device index) → FaultyAt l file r device index
  of_index r device index d (at_offset m q h) e = let s = (same_refusal m r (place.Offset q) (place.Index device index) e).1 in absurd (cc)
  of_index r device index d (at_index m v i h) e =
      let s = same_refusal m r (place.Index v i) (place.Index device index) e in
      let z = s.1 in
      let t : v ≡ device = cc in
      let u : i ≡ index = cc in
      rw (s.0, t, u) at h
  of_index r device index d (passed a f h) e = absurd (cc)

  of_accepted : (x : Declaration) (d : Result Declaration DeclarationRefusal) → Outcome l file d → d ≡ Ok x → Accepted l file x
  of_accepted x d (at_offset m q h) e = absurd (cc)
  of_accepted x d (at_index m v i h) e = absurd (cc)
  of_accepted x d (passed a f h) e = let z : x ≡ declaration_with a f = cc in record { aperture = a; functions = f; passes = h; declares = z }

  -- refused at an offset: `refused_at_lem` is the other way
  pub at_refused : (r : Refusal) (p : ℕ) → declared_by l file ≡ refused_with r (place.Offset p) → RefusedAt l file r p
  at_refused r p = of_offset r p (declared_by l file) (outcome l file)

  -- refused at an index of a device: `faulty_at` is the other way
  pub at_faulty : (r : Refusal) (device index : ℕ) → declared_by l file ≡ refused_with r (place.Index device index) → FaultyAt l file r device index
  at_faulty r device index = of_index r device index (declared_by l file) (outcome l file)

  -- accepted: `passed_is` is the other way
  pub is_passed : (d : Declaration) → declared_by l file ≡ Ok d → Accepted l file d
  is_passed d = of_accepted d (declared_by l file) (outcome l file)

  -- a refused file declares nothing
  pub refused_empty : (e : DeclarationRefusal) → declared_by l file ≡ Err e → declaration_given (declared_by l file) ≡ no_declaration
  refused_empty e h = rw h
