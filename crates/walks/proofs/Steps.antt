-- The by-value steps that walks call, of a state and an argument (`1`) and of two states and an argument (`2`): the contract, what a call of it is told and asks, and what it says.
-- Assumes `Logic`.
use Rattle.walks.proofs.Walk.{Ura, ◌≡◌, [], ◌∷◌, SProp, ent, emp, snd∗, ex_e, sem, fact, !, ◌$◌, ◌∵◌, qed, join, fjoin, frame, done}
use Rattle.walks.proofs.Walk.{RattleType, Is, plain, owned, nothing, Declared, Contract, triple_of, ensured, lasts, yes}
use types.Logic.{Logic}
use denote.Signature.{Signature}
use denote.Struct.Declared.{fields, row}
use denote.Struct.Laws as LL
use denote.Struct.Struct.{Plains}
use denote.Triple.Clauses.{Ended, Clauses, closing}
use Rattle.walks.proofs.Flats.{Flat}

module _ (T : Declared) (P : RattleType) (D : RattleType) (spec : T.D → P.Denot → D.Denot) where
  abbrev signature1 : Signature
  signature1 = record { lifetimes = 0; outlives = []; params = plain (λ _. row T) ∷ plain (λ _. P) ∷ []; result = plain (λ _. D) }

  abbrev ended1 : Ended
  ended1 = record { signature = signature1; kept = (yes, (yes, tt)) }

  abbrev clauses1 : {M : Type 1} (𝓤 : Ura M) → Clauses 𝓤 ended1
  clauses1 𝓤 κs a = record { ghost = Unit {0}; requires = λ _. emp 𝓤; ensures = λ _ r e. fact 𝓤 (r ≡ spec a.0 a.1.0) }

  abbrev pub Step1 : {M : Type 1} {𝓤 : Ura M} (𝓛 : Logic 𝓤) → Contract 𝓤
  Step1 {𝓤 = 𝓤} 𝓛 = triple_of 𝓛 signature1 (closing 𝓛 ended1 (clauses1 𝓤))

  module _ {M : Type 1} {𝓤 : Ura M} (𝓛 : Logic 𝓤) (h : T.D) (w : P.Denot) where
    -- what the step leaves its caller with
    abbrev pub Ensured1 : D.Denot → SProp 𝓤
    Ensured1 r = ensured 𝓛 ended1 (clauses1 𝓤) tt (h, (w, tt)) tt r

    pub said1 : (r : D.Denot) → ent 𝓤 (Ensured1 r) (fact 𝓤 (r ≡ spec h w))
    said1 r = ex_e 𝓤 _ (λ ws. snd∗ 𝓤 (sem 𝓛 (lasts ended1 tt (h, (w, tt)) ws)) (fact 𝓤 (r ≡ spec h w)))

    module _ (L : LL.Laws T) (pl : Plains (fields T)) (F : Flat P) where
      abbrev pub to1 : (Step1 𝓛).Ghost
      to1 = ((tt, tt, tt, (h, (w, tt)), (LL.vals T L h, (F.val w ∷ [], tt))), tt)

      pub asks1 : Is P w (F.val w ∷ []) → Is (row T) h (LL.vals T L h) → ent 𝓤 (emp 𝓤) ((Step1 𝓛).pre to1)
      asks1 gw was = qed 𝓛 [] ∵ nothing ! $ owned ! P (Is P) (F.makes 𝓛) w _ gw $ fjoin ! $ owned ! (row T) (Is (row T)) (LL.makes T pl 𝓛) h _ was $ fjoin ! $ nothing ! $ join ! $ frame ! $ done !

module _ (T : Declared) (O : Declared) (P : RattleType) (D : RattleType) (spec : T.D → O.D → P.Denot → D.Denot) where
  abbrev signature2 : Signature
  signature2 = record { lifetimes = 0; outlives = []; params = plain (λ _. row T) ∷ plain (λ _. row O) ∷ plain (λ _. P) ∷ []; result = plain (λ _. D) }

  abbrev ended2 : Ended
  ended2 = record { signature = signature2; kept = (yes, (yes, (yes, tt))) }

  abbrev clauses2 : {M : Type 1} (𝓤 : Ura M) → Clauses 𝓤 ended2
  clauses2 𝓤 κs a = record { ghost = Unit {0}; requires = λ _. emp 𝓤; ensures = λ _ r e. fact 𝓤 (r ≡ spec a.0 a.1.0 a.1.1.0) }

  abbrev pub Step2 : {M : Type 1} {𝓤 : Ura M} (𝓛 : Logic 𝓤) → Contract 𝓤
  Step2 {𝓤 = 𝓤} 𝓛 = triple_of 𝓛 signature2 (closing 𝓛 ended2 (clauses2 𝓤))

  module _ {M : Type 1} {𝓤 : Ura M} (𝓛 : Logic 𝓤) (h : T.D) (g : O.D) (w : P.Denot) where
    abbrev pub Ensured2 : D.Denot → SProp 𝓤
    Ensured2 r = ensured 𝓛 ended2 (clauses2 𝓤) tt (h, (g, (w, tt))) tt r

    pub said2 : (r : D.Denot) → ent 𝓤 (Ensured2 r) (fact 𝓤 (r ≡ spec h g w))
    said2 r = ex_e 𝓤 _ (λ ws. snd∗ 𝓤 (sem 𝓛 (lasts ended2 tt (h, (g, (w, tt))) ws)) (fact 𝓤 (r ≡ spec h g w)))

    module _ (L : LL.Laws T) (pl : Plains (fields T)) (K : LL.Laws O) (po : Plains (fields O)) (F : Flat P) where
      abbrev pub to2 : (Step2 𝓛).Ghost
      to2 = ((tt, tt, tt, (h, (g, (w, tt))), (LL.vals T L h, (LL.vals O K g, (F.val w ∷ [], tt)))), tt)

      pub asks2 : Is P w (F.val w ∷ []) → Is (row T) h (LL.vals T L h) → Is (row O) g (LL.vals O K g) → ent 𝓤 (emp 𝓤) ((Step2 𝓛).pre to2)
      asks2 gw was was' =
          qed 𝓛 [] ∵ nothing ! $ owned ! P (Is P) (F.makes 𝓛) w _ gw $ fjoin ! $ owned ! (row O) (Is (row O)) (LL.makes O po 𝓛) g _ was' $ fjoin ! $
          owned ! (row T) (Is (row T)) (LL.makes T pl 𝓛) h _ was $ fjoin ! $ nothing ! $ join ! $ frame ! $ done !
