-- A question to a state that is lent by `&`, with a second one lent beside it and changed in place, proved once for all of them, every argument, answer and step:
--     fn looked_beside(s: &S, o: &mut O, p: P) -> R
--         ensures { (result ≡ (step s.now o.old p).answer) × (o.new ≡ (step s.now o.old p).state) }
--     { let d = step(*s, *o, p); *o = d.state; d.answer }
-- over a by-value `fn step(s: S, o: O, p: P) -> D  ensures { result ≡ step s o p }`, where D is a struct of the answer and the second state, in this order, and S, O, P and R are plain data.
-- Assumes `Logic`.
use types.Logic.{Logic}
use denote.Ref.{Bor, MutBor, shr_vals, mut_vals}
use Rattle.walks.proofs.Walk.{Ura, full_share, ◌≡◌, refl, List, [], ◌∷◌, ℕ, named, Val, vptr, SProp, ent, emp, via, fst∗, id⊢, GName, Lft, Share, ftrue, flft, fobs, fbor, fat, Calls, Loops, WpFn, Tables, fact}
use Rattle.walks.proofs.Walk.{‵, raw, ◌⊛◌, ⋆, some, later, ◌$◌, ◌∵◌, !, qed, by, move, keep, drop, use0, use1, split, join, pick, rewrite, fsplit, fsplit3, fjoin, fjoin3, feq_i, suffices, frame, await, done}
use Rattle.walks.proofs.Walk.{look, look_raw, init, store_raw, forget, stop, hop, fld, from, load, of_opd, and_then, no_more, assigns, land, returns, enter, alloc1, alloc0, params1, pass1, pass0, free1, free0, whole, sub, look_in, Body, FmC, fm_of, WpFn-mono}
use Rattle.walks.proofs.Walk.{RattleType, owns, Is, shows, mem, lone, MutRef, mut_Tells, plain, opens, closes, owned, peeks, facts, heard, nothing, spelt, Declared, Contract, Triple, calls_at, on_entry, Meets, says, Stays, stay_ref, stay_none, walk_of, AllGo, Goes-none, Goes-ref, Walks, ends_at, walked, walk_Meets, yes}
use mir.Syntax.{Ty, Sym, Callee, Fn, imm, mut, ty_ref, ty_struct, tcons, tnil, local, value_local, place, deref, field, copy, rv_opd, assign, call, seq, return}
use denote.Builtin.{RefOf, RefMutOf}
use denote.Memory.{hidden_shr}
use denote.Ref.{ShrRef, shr_Tells}
use denote.Signature.{Signature}
use denote.Steps.{looks, shuts}
use denote.Struct.Declared.{fields, row}
use denote.Struct.Laws as LL
use denote.Struct.Struct.{Plains}
use denote.Triple.Clauses.{Ended, Clauses, closing}
use denote.Triple.Walked.{stay_none_ref, Goes-none_ref}
use Rattle.walks.proofs.Flats.{Flat, Pair}
use Rattle.walks.proofs.Steps.{Step2, Ensured2, said2, to2, asks2}

module _ (T : Declared) (L : LL.Laws T) (pl : Plains (fields T)) (cs : LL.Copyables T.parts) (O : Declared) (K : LL.Laws O) (po : Plains (fields O)) (P : RattleType) (F : Flat P) (R : RattleType) (N : Flat R) where
  abbrev τ : Ty
  τ = lone (row T).mir

  abbrev ω : Ty
  ω = lone (row O).mir

  abbrev vals : T.D → List Val
  vals = LL.vals T L

  abbrev vals' : O.D → List Val
  vals' = LL.vals O K

  abbrev τD : Sym → Ty
  τD ν = ty_struct ν (tcons N.ty (tcons ω tnil))

  module _ (D : RattleType) (ν : Sym) (pr : Pair O K R N D ν) (spec : T.D → O.D → P.Denot → D.Denot) where
    -- the signature, its clauses, and the function
    abbrev pub signature : Signature
    signature = record { lifetimes = 2; outlives = []; params = RefOf (0 ∷ []) tt (plain (λ _. row T)) (λ _. tt) ∷ RefMutOf (1 ∷ []) tt (plain (λ _. row O)) (λ _. tt) ∷ plain (λ _. P) ∷ []; result = plain (λ _. R) }

    abbrev pub ended : Ended
    ended = record { signature = signature; kept = (yes, (yes, (yes, tt))) }

    abbrev pub fn : Callee → Ty → Ty → Fn
    fn f τs ωs = record {
      lifetimes = 2;
      outlives = [];
      ty_params = [];
      givens = 0;
      params = 3;
      locals = local N.ty value_local ∷ local (ty_ref (named 0) imm τs) value_local ∷ local (ty_ref (named 1) mut ωs) value_local ∷ local F.ty value_local ∷ local (τD ν) value_local ∷ local τ value_local ∷ local ω value_local ∷ local ω value_local ∷ [];
      body = seq (assign (place 5 []) (rv_opd (copy (place 1 (deref τ ∷ []))))) (seq (assign (place 6 []) (rv_opd (copy (place 2 (deref ω ∷ [])))))
          (seq (call f (copy (place 5 []) ∷ copy (place 6 []) ∷ copy (place 3 []) ∷ []) (place 4 []))
          (seq (assign (place 7 []) (rv_opd (copy (place 4 (field 1 ∷ []))))) (seq (assign (place 2 (deref ω ∷ [])) (rv_opd (copy (place 7 []))))
          (seq (assign (place 0 []) (rv_opd (copy (place 4 (field 0 ∷ []))))) return)))));
    }

    module _ {M : Type 1} (𝓤 : Ura M) where
      abbrev pub clauses : Clauses 𝓤 ended
      clauses κs a = record { ghost = Unit {0}; requires = λ _. emp 𝓤; ensures = λ _ r e. fact 𝓤 ((r ≡ pr.answer (spec a.0.now a.1.0.now a.1.1.0)) × (e.1.0.now ≡ pr.state (spec a.0.now a.1.0.now a.1.1.0))) }

    abbrev stayed : Stays ended.signature.params ended.kept
    stayed = (stay_none_ref (0 ∷ []) tt (plain (λ _. row T)) yes, (stay_ref (1 ∷ []) tt (plain (λ _. row O)), (stay_none (λ _. P) yes, tt)))

    abbrev StepC : {M : Type 1} {𝓤 : Ura M} (𝓛 : Logic 𝓤) → Contract 𝓤
    StepC 𝓛 = Step2 T O P D spec 𝓛

    module _ (f : Callee) (τs ωs : Ty) {M : Type 1} {𝓤 : Ura M} (𝓛 : Logic 𝓤) where
      open 𝓛 use {H}

      module _ (κ κ' : Lft) (q q' : Share) (b o : ℕ) (h : T.D) (b' o' : ℕ) (γ' : GName) (g : O.D) (w : P.Denot) (gw : Is P w (F.val w ∷ [])) where
        abbrev Arg : Type 0
        Arg = Bor T.D × (MutBor O.D × (P.Denot × Unit {0}))

        abbrev x : Arg
        x = (record { ref_ptr = (b, o); now = h }, (record { ref_ptr = (b', o'); ghost_name = γ'; now = g }, (w, tt)))

        abbrev at : List Val × (List Val × (List Val × Unit {0}))
        at = (vptr b o ∷ [], (vptr b' o' ∷ [], (F.val w ∷ [], tt)))

        abbrev Post : Val → SProp 𝓤
        Post = (walk_of 𝓛 ended stayed (clauses 𝓤)).post (((κ, (κ', tt)), (q, (q', tt)), tt, x, at), tt)

        abbrev Said : D.Denot → Type 0
        Said r = r ≡ spec h g w

        exits : (r : D.Denot) → Said r → Is R (pr.answer r) (N.val (pr.answer r) ∷ []) → ent 𝓤 (⋆ 𝓛 (‵ (fobs γ' ((row O).coded.code (pr.state r))) ∷ ‵ (fbor κ' (Body (mem (row O)) b' o' γ')) ∷ ‵ (flft κ' q') ∷ ‵ (flft κ q) ∷ ‵ (hidden_shr (row T) κ h b o) ∷ [])) (Post (N.val (pr.answer r)))
        exits r e ga =
            qed 𝓛 (‵ (fobs γ' ((row O).coded.code (pr.state r))) ∷ ‵ (fbor κ' (Body (mem (row O)) b' o' γ')) ∷ ‵ (flft κ' q') ∷ ‵ (flft κ q) ∷ ‵ (hidden_shr (row T) κ h b o) ∷ []) ∵
            suffices ! _ (ends_at 𝓛 ended stayed (clauses 𝓤) (((κ, (κ', tt)), (q, (q', tt)), tt, x, at), tt) (N.val (pr.answer r)) (pr.answer r) (tt, (pr.state r, (F.last w, tt))) (tt, (tt, (tt, tt)))) $
            says ! ((λ j. pr.answer (e j)), (λ j. pr.state (e j))) $
            nothing ! $ move ! (3 ∷ 0 ∷ []) $ join ! $ move ! (3 ∷ 0 ∷ []) $ join ! $ frame ! $
            -- [obs and borrow of the second; what the state's reference holds]
            move ! (2 ∷ []) $ feq_i ! (List Val) (vptr b o ∷ []) (vptr b o ∷ []) refl $ fjoin ! $ move ! (1 ∷ 2 ∷ []) $ feq_i ! (List Val) (vptr b' o' ∷ []) (vptr b' o' ∷ []) refl $ fjoin3 ! $
            nothing ! $ owned ! P (Is P) (F.makes 𝓛) w _ gw $ fjoin ! $ move ! (1 ∷ 0 ∷ []) $ fjoin ! $ move ! (1 ∷ 0 ∷ []) $ fjoin ! $
            owned ! R (Is R) (N.makes 𝓛) (pr.answer r) _ ga $ move ! (1 ∷ 0 ∷ []) $ done !

        module _ (C : Calls 𝓤 H) (Λ : Loops 𝓤 H) (fm : FmC 𝓤 H 𝓛.laws C) (known : Triple 𝓤 (C f) (StepC 𝓛)) where
          walk : ent 𝓤 (on_entry 𝓛 signature (κ, (κ', tt)) (q, (q', tt)) x at) (WpFn 𝓤 H C Λ (fn f τs ωs) (vptr b o ∷ vptr b' o' ∷ F.val w ∷ []) Post)
          walk =
              qed 𝓛 ((‵ (flft κ q) ⊛ (‵ (flft κ' q') ⊛ ‵ ftrue)) ∷ ‵ (owns (ShrRef (named 0) κ (row T) ∷ MutRef (named 1) κ' (row O) ∷ P ∷ []) x at) ∷ []) ∵ enter ! C Λ (fn f τs ωs) (vptr b o ∷ vptr b' o' ∷ F.val w ∷ []) _ $
              alloc1 ! (λ l₀. alloc1 ! (λ l₁. alloc1 ! (λ l₂. alloc1 ! (λ l₃. alloc1 ! (λ l₄. alloc1 ! (λ l₅. alloc1 ! (λ l₆. alloc1 ! (λ l₇. alloc0 ! $ params1 ! $ pass1 ! (init ! 12 refl (tt, tt)) $ pass1 ! (init ! 10 refl (tt, tt)) $ pass1 ! (init ! 8 refl (F.typed 𝓛 w _ gw)) $ pass0 ! $
              move ! (17 ∷ []) $ fsplit ! $ fsplit ! $ drop ! $ move ! (1 ∷ []) $ fsplit ! $ fsplit3 ! $ drop ! $ move ! (20 ∷ []) $ split ! $ move ! (1 ∷ []) $ split ! $ move ! (6 ∷ 2 ∷ []) $
              looks ! tt (row T) (LL.copied T cs 𝓛).opens h b o (λ p vs. spelt ! (row T) (Is (row T)) (shows 𝓛 (row T)) vals (LL.tells T L) p h vs b o $
              move ! (1 ∷ []) $ peeks ! (row T) (Is (row T)) (shows 𝓛 (row T)) h (vals h) (λ was. move ! (1 ∷ 0 ∷ []) $
              -- [a share of the state's cell; what it owns; the way back; what its reference holds; the second's token; true; its obs; its borrow; what the argument owns; _7 at 9; …; _0 at 23; …]
              assigns ! (of_opd ! (load ! (from ! (hop ! (look ! 21 refl) (stop !))) (look_raw ! 0 refl))) (from ! (stop !)) (init ! 13 refl ((LL.lawful T L 𝓛).typed h _ was).0) $
              shuts ! tt (row T) p h (vals h) b o $ move ! (4 ∷ 5 ∷ 2 ∷ []) $
              opens ! tt (row O) {h = g} b' o' (λ us. spelt ! (row O) (Is (row O)) (shows 𝓛 (row O)) vals' (LL.tells O K) full_share g us b' o' $ move ! (1 ∷ []) $ facts ! (row O) (Is (row O)) (shows 𝓛 (row O)) g (vals' g) (λ was'.
              -- [the second's cell, open borrow, obs, auth; the state's token and what its reference holds; true; what the argument owns; _7 at 8; …; _0 at 22; …]
              assigns ! (of_opd ! (load ! (from ! (hop ! (look ! 18 refl) (stop !))) (look_raw ! 0 refl))) (from ! (stop !)) (init ! 10 refl ((LL.lawful O K 𝓛).typed g _ was').0) $
              use0 𝓛 (raw ((StepC 𝓛).pre (to2 T O P D spec 𝓛 h g w L pl K po F))) (asks2 T O P D spec 𝓛 h g w L pl K po F gw was was') $
              calls_at ! fm (StepC 𝓛) known (to2 T O P D spec 𝓛 h g w L pl K po F) (and_then ! (load ! (from ! (stop !)) (look ! 13 refl)) (and_then ! (load ! (from ! (stop !)) (look ! 11 refl)) (and_then ! (load ! (from ! (stop !)) (look ! 17 refl)) (no_more !)))) (λ v.
              use1 𝓛 (later (some (λ (r : D.Denot). (‵ ftrue ⊛ ‵ (D.own_val r (v ∷ []))) ⊛ raw (Ensured2 T O P D spec 𝓛 h g w r)))) (id⊢ 𝓤 _) $ await ! tt $ pick ! (λ r.
              split ! $ move ! (1 ∷ []) $ use1 𝓛 (raw (fact 𝓤 (Said r))) (said2 T O P D spec 𝓛 h g w r) $ heard ! (Said r) (λ e. split ! $ drop ! $ facts ! D (Is D) (shows 𝓛 D) r (v ∷ []) (λ is.
              -- the result stands in _4, and its machine value is spelled out
              land ! (from ! (stop !)) (init ! 14 refl (pr.typed 𝓛 r v is)) $ rewrite ! 14 (λ (u : Val). ‵ (fat full_share (τD ν) l₄ 0 u)) (pr.tells r v is) refl $
              assigns ! (of_opd ! (load ! (from ! (fld ! refl (stop !))) (look_in ! 14 (sub ! 1 refl (whole !))))) (from ! (stop !)) (init ! 8 refl ((LL.lawful O K 𝓛).typed (pr.state r) _ (pr.state_is r v is)).0) $
              assigns ! (of_opd ! (load ! (from ! (stop !)) (look ! 8 refl))) (from ! (hop ! (look ! 18 refl) (stop !))) (store_raw ! 0 refl ((LL.lawful O K 𝓛).typed (pr.state r) _ (pr.state_is r v is)).0) $
              assigns ! (of_opd ! (load ! (from ! (fld ! refl (stop !))) (look_in ! 14 (sub ! 0 refl (whole !))))) (from ! (stop !)) (init ! 22 refl (N.typed 𝓛 (pr.answer r) _ (pr.answer_is r v is))) $
              owned ! (row O) (Is (row O)) (LL.makes O po 𝓛) (pr.state r) _ (pr.state_is r v is) $ move ! (1 ∷ 0 ∷ []) $ closes ! tt (row O) (pr.state r) (vals' (pr.state r)) b' o' $
              -- [obs, borrow and token of the second; the state's token and what its reference holds; true; what the argument owns; _7 at 7; …; _0 at 21; …]
              returns ! (look ! 21 refl) $ forget ! 7 refl $ forget ! 9 refl $ forget ! 11 refl $ forget ! 13 refl $ forget ! 15 refl $ forget ! 17 refl $ forget ! 19 refl $ forget ! 21 refl $
              move ! (21 ∷ 22 ∷ []) $ free1 ! $ move ! (19 ∷ 20 ∷ []) $ free1 ! $ move ! (17 ∷ 18 ∷ []) $ free1 ! $ move ! (15 ∷ 16 ∷ []) $ free1 ! $ move ! (13 ∷ 14 ∷ []) $ free1 ! $ move ! (11 ∷ 12 ∷ []) $ free1 ! $ move ! (9 ∷ 10 ∷ []) $ free1 ! $ move ! (7 ∷ 8 ∷ []) $ free1 ! $ free0 ! $
              keep ! (0 ∷ 1 ∷ 2 ∷ 3 ∷ 4 ∷ []) $ by ! (exits r e (pr.answer_is r v is))))))))))))))))))

      walks : (C : Calls 𝓤 H) (Λ : Loops 𝓤 H) → FmC 𝓤 H 𝓛.laws C → Triple 𝓤 (C f) (StepC 𝓛) → Walks 𝓛 ended stayed (WpFn 𝓤 H C Λ (fn f τs ωs)) (clauses 𝓤)
      walks C Λ fm known = walked 𝓛 ended stayed (clauses 𝓤) (WpFn 𝓤 H C Λ (fn f τs ωs)) (λ κs. (shr_vals, (mut_vals, ((λ y. F.val y ∷ []), tt)))) (λ κs. (shr_Tells (named 0) κs.0 (row T), (mut_Tells (named 1) κs.1.0 (row O), (F.tells, tt))))
          (λ κs qs bounds a _ are. via 𝓤 _ (fst∗ 𝓤 _ (emp 𝓤)) (walk κs.0 κs.1.0 qs.0 qs.1.0 a.0.ref_ptr.0 a.0.ref_ptr.1 a.0.now a.1.0.ref_ptr.0 a.1.0.ref_ptr.1 a.1.0.ghost_name a.1.0.now a.1.1.0 are.1.1.0 C Λ fm known))

      goes : AllGo 𝓛 2 signature.params ended.kept stayed
      goes = (Goes-none_ref 𝓛 2 (0 ∷ []) tt (plain (λ _. row T)) yes, (Goes-ref 𝓛 2 1 tt (plain (λ _. row O)), (Goes-none 𝓛 2 (λ _. P) yes (λ κs y z. F.silent y z), tt)))

      pub looked_beside : (𝓣 : Tables 𝓤 H) → Triple 𝓤 (𝓣.C f) (StepC 𝓛) → Meets 𝓛 signature (WpFn 𝓤 H 𝓣.C 𝓣.Λ (fn f τs ωs)) (closing 𝓛 ended (clauses 𝓤))
      looked_beside 𝓣 known = walk_Meets 𝓛 ended stayed goes (clauses 𝓤) (WpFn 𝓤 H 𝓣.C 𝓣.Λ (fn f τs ωs)) (WpFn-mono 𝓤 H 𝓛.laws 𝓣 (fn f τs ωs)) (walks 𝓣.C 𝓣.Λ (fm_of 𝓤 H 𝓛.laws 𝓣) known)
