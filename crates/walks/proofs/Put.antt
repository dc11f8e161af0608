-- A state that is made of the bytes of a lent slice and put into a lent state, proved once for every state, answer and step:
--     fn put(s: &mut S, bytes: &[u8]) -> R  ensures { (result ≡ (step bytes.now).answer) × (s.new ≡ (step bytes.now).state) }
--     { let d = step(bytes); *s = d.state; d.answer }
-- over `fn step(bytes: &[u8]) -> D  ensures { result ≡ step bytes.now }`, where D is a struct of the answer and the state, in this order, and S and R are plain data.
-- The slice is Copy: what it owns is had twice, once for the step and once to keep; its lifetime's token goes to the step and comes back.
-- Assumes `Logic`.
use types.Logic.{Logic}
use denote.Slice.{shr_slice_vals}
use denote.Ref.{Bor, MutBor, mut_vals}
use Rattle.walks.proofs.Walk.{Ura, full_share, ◌≡◌, refl, List, [], ◌∷◌, ℕ, named, Val, vptr, SProp, ent, emp, via, fst∗, snd∗, ex_e, id⊢, GName, Lft, Share, Fml, ftrue, flft, fobs, fbor, fat, Calls, Loops, WpFn, Tables, sem, fact}
use Rattle.walks.proofs.Walk.{‵, raw, ◌⊛◌, ⋆, some, later, ◌$◌, ◌∵◌, !, qed, by, move, drop, use1, use2, split, join, pick, rewrite, fsplit, fsplit3, fjoin, fjoin3, feq_i, suffices, frame, await, done}
use Rattle.walks.proofs.Walk.{look, init, store_raw, forget, stop, hop, fld, from, load, of_opd, and_then, no_more, assigns, land, returns, enter, alloc1, alloc0, params1, pass1, pass0, free1, free0, whole, sub, look_in, Body, FmC, fm_of, WpFn-mono}
use Rattle.walks.proofs.Walk.{RattleType, owns, Is, shows, mem, lone, MutRef, mut_Tells, plain, opens, closes, owned, facts, heard, spelt, Declared, Contract, Triple, calls_at, on_entry, Meets, triple_of, says, Stays, stay_ref, walk_of, AllGo, Goes-ref, Walks, ends_at, walked, walk_Meets, ensured, lasts, yes}
use Rattle.walks.proofs.Walk.{length, w8, u8, uint_row_laws, slice_val, ShrSlice, shr_slice_Tells, shr_slice_Lawful, shr_slice_copy, twices, stay_none_slice, Goes-none_slice}
use mir.Syntax.{Ty, Sym, Callee, Fn, mut, ty_ref, ty_struct, tcons, tnil, local, value_local, place, deref, field, copy, rv_opd, assign, call, seq, return}
use denote.Builtin.{RefMutOf}
use denote.Signature.{Signature, shr_slice_of}
use denote.Struct.Declared.{fields, row}
use denote.Struct.Laws as LL
use denote.Struct.Struct.{Plains}
use denote.Triple.Clauses.{Ended, Clauses, closing}
use Rattle.walks.proofs.Flats.{Flat, Pair}

module _ (T : Declared) (L : LL.Laws T) (pl : Plains (fields T)) (R : RattleType) (N : Flat R) where
  abbrev τ : Ty
  τ = lone (row T).mir

  abbrev vals : T.D → List Val
  vals = LL.vals T L

  abbrev τD : Sym → Ty
  τD ν = ty_struct ν (tcons N.ty (tcons τ tnil))

  module _ (D : RattleType) (ν : Sym) (pr : Pair T L R N D ν) (spec : List ℕ → D.Denot) where
    -- the two signatures, their clauses, and the function
    abbrev pub signature : Signature
    signature = record { lifetimes = 2; outlives = []; params = RefMutOf (0 ∷ []) tt (plain (λ _. row T)) (λ _. tt) ∷ shr_slice_of (1 ∷ []) tt (plain (λ _. u8)) ∷ []; result = plain (λ _. R) }

    abbrev pub ended : Ended
    ended = record { signature = signature; kept = (yes, (yes, tt)) }

    abbrev pub step_signature : Signature
    step_signature = record { lifetimes = 1; outlives = []; params = shr_slice_of (0 ∷ []) tt (plain (λ _. u8)) ∷ []; result = plain (λ _. D) }

    abbrev pub step_ended : Ended
    step_ended = record { signature = step_signature; kept = (yes, tt) }

    abbrev pub fn : Callee → Ty → Fn
    fn f τs = record {
      lifetimes = 2;
      outlives = [];
      ty_params = [];
      givens = 0;
      params = 2;
      locals = local N.ty value_local ∷ local (ty_ref (named 0) mut τs) value_local ∷ local (lone (ShrSlice (named 1) [] u8).mir) value_local ∷ local (τD ν) value_local ∷ local τ value_local ∷ [];
      body = seq (call f (copy (place 2 []) ∷ []) (place 3 []))
          (seq (assign (place 4 []) (rv_opd (copy (place 3 (field 1 ∷ []))))) (seq (assign (place 1 (deref τ ∷ [])) (rv_opd (copy (place 4 []))))
          (seq (assign (place 0 []) (rv_opd (copy (place 3 (field 0 ∷ []))))) return)));
    }

    module _ {M : Type 1} (𝓤 : Ura M) where
      abbrev pub clauses : Clauses 𝓤 ended
      clauses κs a = record { ghost = Unit {0}; requires = λ _. emp 𝓤; ensures = λ _ r e. fact 𝓤 ((r ≡ pr.answer (spec a.1.0.now)) × (e.0.now ≡ pr.state (spec a.1.0.now))) }

      abbrev pub step_clauses : Clauses 𝓤 step_ended
      step_clauses κs a = record { ghost = Unit {0}; requires = λ _. emp 𝓤; ensures = λ _ r e. fact 𝓤 (r ≡ spec a.0.now) }

    abbrev stayed : Stays ended.signature.params ended.kept
    stayed = (stay_ref (0 ∷ []) tt (plain (λ _. row T)), (stay_none_slice (1 ∷ []) tt (plain (λ _. u8)) yes, tt))

    abbrev pub StepC : {M : Type 1} {𝓤 : Ura M} (𝓛 : Logic 𝓤) → Contract 𝓤
    StepC {𝓤 = 𝓤} 𝓛 = triple_of 𝓛 step_signature (closing 𝓛 step_ended (step_clauses 𝓤))

    module _ (f : Callee) (τs : Ty) {M : Type 1} {𝓤 : Ura M} (𝓛 : Logic 𝓤) where
      open 𝓛 use {H}

      module _ (κ κ' : Lft) (q q' : Share) (b o : ℕ) (γ : GName) (h : T.D) (s : Bor (List ℕ)) where
        abbrev Sl : RattleType
        Sl = ShrSlice (named 1) κ' u8

        abbrev sv : Val
        sv = slice_val s.ref_ptr (length s.now)

        abbrev Arg : Type 0
        Arg = MutBor T.D × (Bor (List ℕ) × Unit {0})

        abbrev x : Arg
        x = (record { ref_ptr = (b, o); ghost_name = γ; now = h }, (s, tt))

        abbrev at : List Val × (List Val × Unit {0})
        at = (vptr b o ∷ [], (sv ∷ [], tt))

        abbrev Post : Val → SProp 𝓤
        Post = (walk_of 𝓛 ended stayed (clauses 𝓤)).post (((κ, (κ', tt)), (q, (q', tt)), tt, x, at), tt)

        abbrev to : (StepC 𝓛).Ghost
        to = (((κ', tt), (q', tt), tt, (s, tt), (sv ∷ [], tt)), tt)

        abbrev Owns : Fml
        Owns = owns (Sl ∷ []) (s, tt) (sv ∷ [], tt)

        asks : ent 𝓤 (⋆ 𝓛 ((‵ (flft κ' q') ⊛ ‵ ftrue) ∷ ‵ Owns ∷ [])) ((StepC 𝓛).pre to)
        asks = qed 𝓛 ((‵ (flft κ' q') ⊛ ‵ ftrue) ∷ ‵ Owns ∷ []) ∵ join ! $ frame ! $ done !

        abbrev Said : D.Denot → Type 0
        Said r = r ≡ spec s.now

        said : (r : D.Denot) → ent 𝓤 (ensured 𝓛 step_ended (step_clauses 𝓤) (κ', tt) (s, tt) tt r) (fact 𝓤 (Said r))
        said r = ex_e 𝓤 _ (λ ws. snd∗ 𝓤 (sem 𝓛 (lasts step_ended (κ', tt) (s, tt) ws)) (fact 𝓤 (Said r)))

        exits : (r : D.Denot) → Said r → Is R (pr.answer r) (N.val (pr.answer r) ∷ []) → ent 𝓤 (⋆ 𝓛 (‵ (fobs γ ((row T).coded.code (pr.state r))) ∷ ‵ (fbor κ (Body (mem (row T)) b o γ)) ∷ ‵ (flft κ q) ∷ (‵ (flft κ' q') ⊛ ‵ ftrue) ∷ ‵ Owns ∷ [])) (Post (N.val (pr.answer r)))
        exits r e ga =
            qed 𝓛 (‵ (fobs γ ((row T).coded.code (pr.state r))) ∷ ‵ (fbor κ (Body (mem (row T)) b o γ)) ∷ ‵ (flft κ q) ∷ (‵ (flft κ' q') ⊛ ‵ ftrue) ∷ ‵ Owns ∷ []) ∵
            suffices ! _ (ends_at 𝓛 ended stayed (clauses 𝓤) (((κ, (κ', tt)), (q, (q', tt)), tt, x, at), tt) (N.val (pr.answer r)) (pr.answer r) (pr.state r, (tt, tt)) (tt, (tt, tt))) $ says ! ((λ j. pr.answer (e j)), (λ j. pr.state (e j))) $
            move ! (2 ∷ 3 ∷ []) $ join ! $ frame ! $ feq_i ! (List Val) (vptr b o ∷ []) (vptr b o ∷ []) refl $ fjoin3 ! $ fjoin ! $
            owned ! R (Is R) (N.makes 𝓛) (pr.answer r) _ ga $ move ! (1 ∷ 0 ∷ []) $ done !

        module _ (C : Calls 𝓤 H) (Λ : Loops 𝓤 H) (fm : FmC 𝓤 H 𝓛.laws C) (known : Triple 𝓤 (C f) (StepC 𝓛)) where
          walk : Is Sl s (sv ∷ []) → ent 𝓤 (on_entry 𝓛 signature (κ, (κ', tt)) (q, (q', tt)) x at) (WpFn 𝓤 H C Λ (fn f τs) (vptr b o ∷ sv ∷ []) Post)
          walk ps =
              qed 𝓛 ((‵ (flft κ q) ⊛ (‵ (flft κ' q') ⊛ ‵ ftrue)) ∷ ‵ (owns (MutRef (named 0) κ (row T) ∷ Sl ∷ []) x at) ∷ []) ∵ enter ! C Λ (fn f τs) (vptr b o ∷ sv ∷ []) _ $
              alloc1 ! (λ l₀. alloc1 ! (λ l₁. alloc1 ! (λ l₂. alloc1 ! (λ l₃. alloc1 ! (λ l₄. alloc0 ! $ params1 ! $ pass1 ! (init ! 6 refl (tt, tt)) $ pass1 ! (init ! 4 refl ((shr_slice_Lawful 𝓛 (named 1) κ' u8).typed s (sv ∷ []) ps).0) $ pass0 ! $
              move ! (11 ∷ []) $ fsplit ! $ move ! (1 ∷ []) $ use1 𝓛 (‵ Owns ⊛ ‵ Owns) (twices 𝓛 (Sl ∷ []) (shr_slice_copy 𝓛 (named 1) κ' u8 (uint_row_laws w8), tt) (s, tt) (sv ∷ [], tt)) $ split ! $
              move ! (13 ∷ []) $ split ! $ move ! (1 ∷ 2 ∷ []) $ use2 𝓛 (raw ((StepC 𝓛).pre to)) asks $
              -- [what the step asks; the state's token; what the slice owns; the borrow; room for _4; …; room for _3; …; _2; …; _1; …; room for _0; …]
              calls_at ! fm (StepC 𝓛) known to (and_then ! (load ! (from ! (stop !)) (look ! 8 refl)) (no_more !)) (λ v.
              use1 𝓛 (later (some (λ (r : D.Denot). ((‵ (flft κ' q') ⊛ ‵ ftrue) ⊛ ‵ (D.own_val r (v ∷ []))) ⊛ raw (ensured 𝓛 step_ended (step_clauses 𝓤) (κ', tt) (s, tt) tt r)))) (id⊢ 𝓤 _) $ await ! tt $ pick ! (λ r.
              split ! $ move ! (1 ∷ []) $ use1 𝓛 (raw (fact 𝓤 (Said r))) (said r) $ heard ! (Said r) (λ e. split ! $ move ! (1 ∷ []) $ facts ! D (Is D) (shows 𝓛 D) r (v ∷ []) (λ is.
              -- [the slice's token; the state's; what the slice owns; the borrow; room for _4; …; room for _3; …]: the result stands in _3, and its machine value is spelled out
              land ! (from ! (stop !)) (init ! 6 refl (pr.typed 𝓛 r v is)) $ rewrite ! 6 (λ (u : Val). ‵ (fat full_share (τD ν) l₃ 0 u)) (pr.tells r v is) refl $
              move ! (3 ∷ []) $ fsplit3 ! $ drop ! $ move ! (0 ∷ 1 ∷ 3 ∷ []) $
              opens ! tt (row T) {h = h} b o (λ vs. spelt ! (row T) (Is (row T)) (shows 𝓛 (row T)) vals (LL.tells T L) full_share h vs b o $ move ! (1 ∷ []) $ facts ! (row T) (Is (row T)) (shows 𝓛 (row T)) h (vals h) (λ was.
              -- [the state's cell; the open borrow; obs; auth; the slice's token; what it owns; room for _4; …; _3; …; _2; …; _1; …; room for _0; …]
              assigns ! (of_opd ! (load ! (from ! (fld ! refl (stop !))) (look_in ! 8 (sub ! 1 refl (whole !))))) (from ! (stop !)) (init ! 6 refl ((LL.lawful T L 𝓛).typed (pr.state r) _ (pr.state_is r v is)).0) $
              assigns ! (of_opd ! (load ! (from ! (stop !)) (look ! 6 refl))) (from ! (hop ! (look ! 12 refl) (stop !))) (store_raw ! 0 refl ((LL.lawful T L 𝓛).typed (pr.state r) _ (pr.state_is r v is)).0) $
              assigns ! (of_opd ! (load ! (from ! (fld ! refl (stop !))) (look_in ! 8 (sub ! 0 refl (whole !))))) (from ! (stop !)) (init ! 14 refl (N.typed 𝓛 (pr.answer r) _ (pr.answer_is r v is))) $
              owned ! (row T) (Is (row T)) (LL.makes T pl 𝓛) (pr.state r) _ (pr.state_is r v is) $ move ! (1 ∷ 0 ∷ []) $ closes ! tt (row T) (pr.state r) (vals (pr.state r)) b o $
              -- [obs; the borrow; the token; the slice's; what it owns; _4; …; _3; …; _2; …; _1; …; _0; …]
              returns ! (look ! 13 refl) $ forget ! 5 refl $ forget ! 7 refl $ forget ! 9 refl $ forget ! 11 refl $ forget ! 13 refl $
              move ! (13 ∷ 14 ∷ []) $ free1 ! $ move ! (11 ∷ 12 ∷ []) $ free1 ! $ move ! (9 ∷ 10 ∷ []) $ free1 ! $ move ! (7 ∷ 8 ∷ []) $ free1 ! $ move ! (5 ∷ 6 ∷ []) $ free1 ! $ free0 ! $
              by ! (exits r e (pr.answer_is r v is)))))))))))))

      walks : (C : Calls 𝓤 H) (Λ : Loops 𝓤 H) → FmC 𝓤 H 𝓛.laws C → Triple 𝓤 (C f) (StepC 𝓛) → Walks 𝓛 ended stayed (WpFn 𝓤 H C Λ (fn f τs)) (clauses 𝓤)
      walks C Λ fm known = walked 𝓛 ended stayed (clauses 𝓤) (WpFn 𝓤 H C Λ (fn f τs)) (λ κs. (mut_vals, (shr_slice_vals, tt))) (λ κs. (mut_Tells (named 0) κs.0 (row T), (shr_slice_Tells (named 1) κs.1.0 u8, tt)))
          (λ κs qs bounds a _ are. via 𝓤 _ (fst∗ 𝓤 _ (emp 𝓤)) (walk κs.0 κs.1.0 qs.0 qs.1.0 a.0.ref_ptr.0 a.0.ref_ptr.1 a.0.ghost_name a.0.now a.1.0 C Λ fm known are.1.0))

      goes : AllGo 𝓛 2 signature.params ended.kept stayed
      goes = (Goes-ref 𝓛 2 0 tt (plain (λ _. row T)), (Goes-none_slice 𝓛 2 (1 ∷ []) tt (plain (λ _. u8)) yes, tt))

      pub put : (𝓣 : Tables 𝓤 H) → Triple 𝓤 (𝓣.C f) (StepC 𝓛) → Meets 𝓛 signature (WpFn 𝓤 H 𝓣.C 𝓣.Λ (fn f τs)) (closing 𝓛 ended (clauses 𝓤))
      put 𝓣 known = walk_Meets 𝓛 ended stayed goes (clauses 𝓤) (WpFn 𝓤 H 𝓣.C 𝓣.Λ (fn f τs)) (WpFn-mono 𝓤 H 𝓛.laws 𝓣 (fn f τs)) (walks 𝓣.C 𝓣.Λ (fm_of 𝓤 H 𝓛.laws 𝓣) known)
