-- What is asked of the types in a walk: of an argument's and of an answer's (`Flat`: `flat_struct`, `flat_enum`, `flat_uint`), and of a step's result: a struct of the answer and the state, in this order (`Pair`), or of the answer, a second state and the state (`Three`).
-- Assumes `Logic`.
use Rattle.walks.proofs.Walk.{Ura, ◌≡◌, refl, [], ◌∷◌, Holds, Val, WT, has_ty, vint, vstruct, vnil, vcons, ftrue}
use Rattle.walks.proofs.Walk.{RattleType, Is, lone, Declared, yes, uint_Tells, uint_Makes, uint_Lawful}
use mir.Syntax.{Ty, Sym, Width, ty_int, ty_struct, tcons, tnil}
use mathlib.Core.Path.{sym, subst}
use denote.Enum.Declared as EnumDeclared
use types.Logic.{Logic}
use denote.Enum.Enum.{Few, Plainss}
use denote.Enum.Laws as EL
use denote.Exit.{Exit, Last, left, unchanged}
use denote.Laws.{Tells, Makes}
use denote.Plain.{UInt}
use denote.Struct.Declared.{fields, row}
use denote.Struct.Laws as LL
use denote.Struct.Struct.{Plains}

pub record Flat (R : RattleType) : Type 2 where
  pub ty : Ty
  pub val : R.Denot → Val
  pub tells : Tells R (Is R) (λ x. val x ∷ [])
  pub typed : {M : Type 1} {𝓤 : Ura M} (𝓛 : Logic 𝓤) → (x : R.Denot) (v : Val) → Is R x (v ∷ []) → Holds (has_ty ty v) × WT v
  pub makes : {M : Type 1} {𝓤 : Ura M} (𝓛 : Logic 𝓤) → Makes 𝓛 R (Is R)
  pub last : (x : R.Denot) → Last (R.exit yes) x
  pub silent : (x : R.Denot) (f : Last (R.exit yes) x) → left (R.exit yes) x f ≡ ftrue

-- where the type is seen at exit as it was passed, nothing is bound there and nothing is said
pub last_of : (R : RattleType) → R.exit yes ≡ unchanged → (x : R.Denot) → Last (R.exit yes) x
last_of R e x = subst (λ (u : Exit R.Denot). Last u x) (sym e) tt

pub silent_of : (R : RattleType) → R.exit yes ≡ unchanged → (x : R.Denot) (f : Last (R.exit yes) x) → left (R.exit yes) x f ≡ ftrue
silent_of R e x = subst (λ (u : Exit R.Denot). (f : Last u x) → left u x f ≡ ftrue) (sym e) (λ f. refl)

abbrev pub flat_struct : (T : Declared) (L : LL.Laws T) → Plains (fields T) → LL.Copyables T.parts → Flat (row T)
flat_struct T L pl cs = record {
  ty = lone (row T).mir;
  val = LL.val T L;
  tells = LL.tells T L;
  typed = λ 𝓛 x v is. ((LL.lawful T L 𝓛).typed x (v ∷ []) is).0;
  makes = λ 𝓛. LL.makes T pl 𝓛;
  last = last_of (row T) (LL.still T cs yes);
  silent = silent_of (row T) (LL.still T cs yes);
}

abbrev pub flat_enum : (T : EnumDeclared.Declared) (L : EL.Laws T) → Few (EnumDeclared.shape T) → Plainss (EnumDeclared.variants T) → EL.Copyabless T.parts → Flat (EnumDeclared.row T)
flat_enum T L few pl cs = record {
  ty = lone (EnumDeclared.row T).mir;
  val = EL.val T L;
  tells = EL.tells T L;
  typed = λ 𝓛 x v is. ((EL.lawful T L 𝓛 few).typed x (v ∷ []) is).0;
  makes = λ 𝓛. EL.makes T pl 𝓛;
  last = last_of (EnumDeclared.row T) (EL.still T cs yes);
  silent = silent_of (EnumDeclared.row T) (EL.still T cs yes);
}

abbrev pub flat_uint : (w : Width) → Flat (UInt w)
flat_uint w = record {
  ty = ty_int w;
  val = vint w;
  tells = uint_Tells w;
  typed = λ 𝓛 x v is. ((uint_Lawful 𝓛 w).typed x (v ∷ []) is).0;
  makes = λ 𝓛. uint_Makes 𝓛 w;
  last = λ x. tt;
  silent = λ x f. refl;
}

module _ (T : Declared) (L : LL.Laws T) (R : RattleType) (N : Flat R) where
  -- the MIR type of the step's result
  abbrev τD : Sym → Ty
  τD ν = ty_struct ν (tcons N.ty (tcons (lone (row T).mir) tnil))

  pub record Pair (D : RattleType) (ν : Sym) : Type 2 where
    pub answer : D.Denot → R.Denot
    pub state : D.Denot → T.D
    pub tells : (r : D.Denot) (v : Val) → Is D r (v ∷ []) → v ≡ vstruct (vcons (N.val (answer r)) (vcons (LL.val T L (state r)) vnil))
    pub typed : {M : Type 1} {𝓤 : Ura M} (𝓛 : Logic 𝓤) → (r : D.Denot) (v : Val) → Is D r (v ∷ []) → Holds (has_ty (τD ν) v) × WT v
    pub answer_is : (r : D.Denot) (v : Val) → Is D r (v ∷ []) → Is R (answer r) (N.val (answer r) ∷ [])
    pub state_is : (r : D.Denot) (v : Val) → Is D r (v ∷ []) → Is (row T) (state r) (LL.vals T L (state r))

module _ (T : Declared) (L : LL.Laws T) (O : Declared) (K : LL.Laws O) (R : RattleType) (N : Flat R) where
  abbrev τD3 : Sym → Ty
  τD3 ν = ty_struct ν (tcons N.ty (tcons (lone (row O).mir) (tcons (lone (row T).mir) tnil)))

  pub record Three (D : RattleType) (ν : Sym) : Type 2 where
    pub answer : D.Denot → R.Denot
    pub other : D.Denot → O.D
    pub state : D.Denot → T.D
    pub tells : (r : D.Denot) (v : Val) → Is D r (v ∷ []) → v ≡ vstruct (vcons (N.val (answer r)) (vcons (LL.val O K (other r)) (vcons (LL.val T L (state r)) vnil)))
    pub typed : {M : Type 1} {𝓤 : Ura M} (𝓛 : Logic 𝓤) → (r : D.Denot) (v : Val) → Is D r (v ∷ []) → Holds (has_ty (τD3 ν) v) × WT v
    pub answer_is : (r : D.Denot) (v : Val) → Is D r (v ∷ []) → Is R (answer r) (N.val (answer r) ∷ [])
    pub other_is : (r : D.Denot) (v : Val) → Is D r (v ∷ []) → Is (row O) (other r) (LL.vals O K (other r))
    pub state_is : (r : D.Denot) (v : Val) → Is D r (v ∷ []) → Is (row T) (state r) (LL.vals T L (state r))
