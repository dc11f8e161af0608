-- What the reader hands out, proved once for every answer: the struct is taken apart, and a covered function is called on the file and the position.
--     fn asked(self) -> R  ensures { Said self.entry.file.now self.entry.at result }  { f(self.file, self.at) }
-- over `fn f(file: &'a [u8], at: usize) -> R  ensures { Said file.now at result }`, where R may be a part of the file.
-- All that is known of `f` is that it meets its contract. The struct is Copy: what it owns is had twice, one copy is kept whole for the exit, and of the other what the file owns goes to `f`, beside the lifetime's token, which comes back.
use Rattle.walks.proofs.Walk.{refl, ℕ, List, [], ◌∷◌, ◌<◌, ◌^◌, Holds, Ura, named, erased, ty_int, w64, Val, WT, has_ty, vint, SProp, ent, sep, emp, via, fst∗, snd∗, ex_e, id⊢, Lft, Share, ftrue, flft, Calls, Loops, WpFn, Tables, sem, Lfts, fact}
use Rattle.walks.proofs.Walk.{‵, raw, ◌⊛◌, ⋆, some, later, ◌$◌, ◌∵◌, !, qed, by, move, drop, use1, use2, split, join, pick, fsplit, fjoin, suffices, frame, await, done, whole, sub, look_in, look, init, forget, stop, fld, from, load, of_opd, and_then, no_more, assigns, land, returns, enter, alloc1, alloc0, params1, pass1, pass0, free1, free0, FmC, fm_of, WpFn-mono}
use Rattle.walks.proofs.Walk.{RattleType, owns, lone, Is, shows, uint_Makes, u8, usize, plain, ShrSlice, owned, peeks, heard, nothing, Contract, Triple, calls_at, Vals, on_entry, Meets, triple_of, says, Stays, stay_none, walk_of, Goes-none, Walks, ends_at, walked, walk_Meets, yes, ensured, lasts}
use mir.Syntax.{Ty, Callee, Fn, local, value_local, place, field, copy, rv_opd, assign, call, seq, return}
use types.Logic.{Logic, sem}
use denote.Signature.{Signature, shr_slice_of}
use denote.Struct.Laws as LL
use denote.Triple.Clauses.{Ended, Clauses, closing}
use Rattle.declaration.specs.declared.reader.Reader.{Reader}
use Rattle.declaration.proofs.reader.Reader.TheLaws as T'
use Rattle.declaration.proofs.Lent.{B, D, L, Own, FileOwn, file_val, lends}

-- an answer's type at the signature's lifetime, its MIR type, and that its machine values are of that type
pub record Answer : Type 2 where
  pub row : Lfts 1 → RattleType
  pub ty : Ty
  pub typed : {M : Type 1} {𝓤 : Ura M} (𝓛 : Logic 𝓤) → (κs : Lfts 1) (r : (row κs).Denot) (v : Val) → Is (row κs) r (v ∷ []) → Holds (has_ty ty v) × WT v

module _ (R : Answer) (Said : List ℕ → ℕ → (κs : Lfts 1) → (R.row κs).Denot → Type 0) where
  -- the two signatures, their clauses, and the function
  abbrev pub signature : Signature
  signature = record { lifetimes = 1; outlives = []; params = plain B ∷ []; result = plain R.row }

  abbrev pub ended : Ended
  ended = record { signature = signature; kept = (yes, tt) }

  abbrev pub ask_signature : Signature
  ask_signature = record { lifetimes = 1; outlives = []; params = shr_slice_of (0 ∷ []) tt (plain (λ _. u8)) ∷ plain (λ _. usize) ∷ []; result = plain R.row }

  abbrev pub ask_ended : Ended
  ask_ended = record { signature = ask_signature; kept = (yes, (yes, tt)) }

  abbrev pub fn : Callee → Fn
  fn f = record {
    lifetimes = 1;
    outlives = [];
    ty_params = [];
    givens = 0;
    params = 1;
    locals = local R.ty value_local ∷ local (T'.mir (named 0)) value_local ∷ local (lone (ShrSlice erased [] u8).mir) value_local ∷ local (ty_int w64) value_local ∷ [];
    body = seq (assign (place 2 []) (rv_opd (copy (place 1 (field 0 ∷ []))))) (seq (assign (place 3 []) (rv_opd (copy (place 1 (field 1 ∷ [])))))
        (seq (call f (copy (place 2 []) ∷ copy (place 3 []) ∷ []) (place 0 [])) return));
  }

  abbrev stayed : Stays ended.signature.params ended.kept
  stayed = (stay_none B yes, tt)

  module _ {M : Type 1} (𝓤 : Ura M) where
    abbrev pub clauses : Clauses 𝓤 ended
    clauses κs a = record { ghost = Unit {0}; requires = λ _. emp 𝓤; ensures = λ _ r e. fact 𝓤 (Said a.0.file.now a.0.at κs r) }

    abbrev pub ask_clauses : Clauses 𝓤 ask_ended
    ask_clauses κs a = record { ghost = Unit {0}; requires = λ _. emp 𝓤; ensures = λ _ r e. fact 𝓤 (Said a.0.now a.1.0 κs r) }

  abbrev pub AskC : {M : Type 1} {𝓤 : Ura M} (𝓛 : Logic 𝓤) → Contract 𝓤
  AskC {𝓤 = 𝓤} 𝓛 = triple_of 𝓛 ask_signature (closing 𝓛 ask_ended (ask_clauses 𝓤))

  module _ (f : Callee) {M : Type 1} {𝓤 : Ura M} (𝓛 : Logic 𝓤) where
    open 𝓛 use {H}

    module _ (κ : Lft) (q : Share) (d : Reader) where
      abbrev mach : Val
      mach = T'.lowered d

      abbrev at : Vals signature (κ, tt)
      at = (mach ∷ [], tt)

      abbrev pub Res : RattleType
      Res = R.row (κ, tt)

      abbrev Post : Val → SProp 𝓤
      Post = (walk_of 𝓛 ended stayed (clauses 𝓤)).post (((κ, tt), (q, tt), tt, (d, tt), at), tt)

      -- what the callee is passed
      abbrev pub passed : Vals ask_signature (κ, tt)
      passed = (file_val d ∷ [], (vint w64 d.at ∷ [], tt))

      abbrev pub to : (AskC 𝓛).Ghost
      to = (((κ, tt), (q, tt), tt, (d.file, (d.at, tt)), passed), tt)

      asks : ent 𝓤 (on_entry 𝓛 ask_signature (κ, tt) (q, tt) (d.file, (d.at, tt)) passed) ((AskC 𝓛).pre to)
      asks = qed 𝓛 ((‵ (flft κ q) ⊛ ‵ ftrue) ∷ ‵ (owns (ShrSlice (named 0) κ u8 ∷ usize ∷ []) (d.file, (d.at, tt)) passed) ∷ []) ∵ join ! $ frame ! $ done !

      -- what the struct owns gives what the callee asks, and is kept
      pub apart : d.at < 2 ^ 64 → ent 𝓤 (on_entry 𝓛 signature (κ, tt) (q, tt) (d, tt) (T'.lowered d ∷ [], tt)) (sep 𝓤 ((AskC 𝓛).pre to) (sem 𝓛 (Own κ d)))
      apart fits =
          qed 𝓛 ((‵ (flft κ q) ⊛ ‵ ftrue) ∷ ‵ (owns (B (κ, tt) ∷ []) (d, tt) at) ∷ []) ∵
          move ! (1 ∷ []) $ fsplit ! $ move ! (1 ∷ []) $ drop ! $ use1 𝓛 (‵ (FileOwn κ d) ⊛ ‵ (Own κ d)) (lends 𝓛 κ d) $ split ! $
          nothing ! $ owned ! usize (Is usize) (uint_Makes 𝓛 w64) d.at _ (refl, fits) $ fjoin ! $ move ! (1 ∷ 0 ∷ []) $ fjoin ! $
          move ! (2 ∷ 0 ∷ []) $ use2 𝓛 (raw ((AskC 𝓛).pre to)) asks $ frame ! $ done !

      abbrev pub Told : Res.Denot → Type 0
      Told r = Said d.file.now d.at (κ, tt) r

      -- of the callee's `ensured`, the clause alone: it has no `&mut`, so what is said of last values is dropped
      pub told : (r : Res.Denot) → ent 𝓤 (ensured 𝓛 ask_ended (ask_clauses 𝓤) (κ, tt) (d.file, (d.at, tt)) tt r) (fact 𝓤 (Told r))
      told r = ex_e 𝓤 _ (λ ws. snd∗ 𝓤 (sem 𝓛 (lasts ask_ended (κ, tt) (d.file, (d.at, tt)) ws)) (fact 𝓤 (Told r)))

      exits : (r : Res.Denot) (u : Val) → Told r → ent 𝓤 (⋆ 𝓛 (‵ (Res.own_val r (u ∷ [])) ∷ (‵ (flft κ q) ⊛ ‵ ftrue) ∷ ‵ (Own κ d) ∷ [])) (Post u)
      exits r u e =
          qed 𝓛 (‵ (Res.own_val r (u ∷ [])) ∷ (‵ (flft κ q) ⊛ ‵ ftrue) ∷ ‵ (Own κ d) ∷ []) ∵
          suffices ! _ (ends_at 𝓛 ended stayed (clauses 𝓤) (((κ, tt), (q, tt), tt, (d, tt), at), tt) u r (tt, tt) (tt, tt)) $ says ! e $
          move ! (1 ∷ []) $ frame ! $ nothing ! $ move ! (2 ∷ 0 ∷ []) $ fjoin ! $ frame ! $ done !

      module _ (C : Calls 𝓤 H) (Λ : Loops 𝓤 H) (fm : FmC 𝓤 H 𝓛.laws C) (known : Triple 𝓤 (C f) (AskC 𝓛)) where
        walk : Holds (has_ty (T'.mir (named 0)) mach) × WT mach → ent 𝓤 (on_entry 𝓛 signature (κ, tt) (q, tt) (d, tt) at) (WpFn 𝓤 H C Λ (fn f) (mach ∷ []) Post)
        walk wt =
            qed 𝓛 (raw (on_entry 𝓛 signature (κ, tt) (q, tt) (d, tt) at) ∷ []) ∵ enter ! C Λ (fn f) (mach ∷ []) _ $
            alloc1 ! (λ l₀. alloc1 ! (λ l₁. alloc1 ! (λ l₂. alloc1 ! (λ l₃. alloc0 ! $ params1 ! $ pass1 ! (init ! 4 refl wt) $ pass0 ! $
            assigns ! (of_opd ! (load ! (from ! (fld ! refl (stop !))) (look_in ! 4 (sub ! 0 refl (whole !))))) (from ! (stop !)) (init ! 2 refl (tt, wt.1.0)) $
            assigns ! (of_opd ! (load ! (from ! (fld ! refl (stop !))) (look_in ! 4 (sub ! 1 refl (whole !))))) (from ! (stop !)) (init ! 0 refl (tt, wt.1.1.0)) $
            move ! (8 ∷ []) $ use1 𝓛 (raw ((AskC 𝓛).pre to) ⊛ ‵ (Own κ d)) (apart wt.1.1.0.fits) $ split ! $
            calls_at ! fm (AskC 𝓛) known to (and_then ! (load ! (from ! (stop !)) (look ! 4 refl)) (and_then ! (load ! (from ! (stop !)) (look ! 2 refl)) (no_more !))) (λ u.
            use1 𝓛 (later (some (λ (r : Res.Denot). ((‵ (flft κ q) ⊛ ‵ ftrue) ⊛ ‵ (Res.own_val r (u ∷ []))) ⊛ raw (ensured 𝓛 ask_ended (ask_clauses 𝓤) (κ, tt) (d.file, (d.at, tt)) tt r)))) (id⊢ 𝓤 _) $ await ! tt $ pick ! (λ r.
            split ! $ move ! (1 ∷ []) $ use1 𝓛 (raw (fact 𝓤 (Told r))) (told r) $ heard ! (Told r) (λ e. split ! $ move ! (1 ∷ []) $
            -- [the result; the token; what the struct owns; _3; …; _2; …; _1; …; room for _0; …]
            peeks ! Res (Is Res) (shows 𝓛 Res) r (u ∷ []) (λ is.
            land ! (from ! (stop !)) (init ! 9 refl (R.typed 𝓛 (κ, tt) r u is)) $
            returns ! (look ! 9 refl) $ forget ! 3 refl $ forget ! 5 refl $ forget ! 7 refl $ forget ! 9 refl $
            move ! (9 ∷ 10 ∷ []) $ free1 ! $ move ! (7 ∷ 8 ∷ []) $ free1 ! $ move ! (5 ∷ 6 ∷ []) $ free1 ! $ move ! (3 ∷ 4 ∷ []) $ free1 ! $ free0 ! $ by ! (exits r u e)))))))))

    walks : (C : Calls 𝓤 H) (Λ : Loops 𝓤 H) → FmC 𝓤 H 𝓛.laws C → Triple 𝓤 (C f) (AskC 𝓛) → Walks 𝓛 ended stayed (WpFn 𝓤 H C Λ (fn f)) (clauses 𝓤)
    walks C Λ fm known = walked 𝓛 ended stayed (clauses 𝓤) (WpFn 𝓤 H C Λ (fn f)) (λ κs. (LL.vals (D κs.0) (L κs.0), tt)) (λ κs. (LL.tells (D κs.0) (L κs.0), tt))
        (λ κs qs bounds a g are. via 𝓤 _ (fst∗ 𝓤 _ (emp 𝓤)) (walk κs.0 qs.0 a.0 C Λ fm known ((LL.lawful (D κs.0) (L κs.0) 𝓛).typed a.0 _ are.0).0))

    pub hands : (𝓣 : Tables 𝓤 H) → Triple 𝓤 (𝓣.C f) (AskC 𝓛) → Meets 𝓛 signature (WpFn 𝓤 H 𝓣.C 𝓣.Λ (fn f)) (closing 𝓛 ended (clauses 𝓤))
    hands 𝓣 known = walk_Meets 𝓛 ended stayed (Goes-none 𝓛 1 B yes (λ κs x g. refl), tt) (clauses 𝓤) (WpFn 𝓤 H 𝓣.C 𝓣.Λ (fn f)) (WpFn-mono 𝓤 H 𝓛.laws 𝓣 (fn f)) (walks 𝓣.C 𝓣.Λ (fm_of 𝓤 H 𝓛.laws 𝓣) known)
