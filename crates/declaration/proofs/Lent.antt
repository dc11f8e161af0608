-- What every walk over a `Reader` that is passed by value shares: the struct's type at the signature's one lifetime, what it owns, and that the file is lent out of it while the struct stays whole (it is Copy).
use Rattle.walks.proofs.Walk.{◌≡◌, [], ◌∷◌, length, Ura, named, Val, ent, sep, Lft, Fml, sem, Lfts, ‵, ◌⊛◌, given, ◌$◌, ◌∵◌, !, qed, move, drop, use1, split, learn, frame, done, RattleType, u8, named_lft, slice_val, ShrSlice, Declared, all_own, field_own, rest, own_open, own_out, Values}
use denote.Struct.Laws as LL
use Rattle.declaration.specs.declared.reader.Reader.{Reader}
use Rattle.declaration.specs.contracts.reader.Reader as T
use Rattle.declaration.proofs.reader.Reader.TheLaws as T'
use types.Logic.{Logic, sem}

-- the struct's type, over the signature's lifetimes
abbrev pub B : Lfts 1 → RattleType
B κs = T.the_row (named_lft 1 0 tt κs)

abbrev pub D : Lft → Declared
D κ = T.the_type (named_lft 1 0 tt (κ, tt))

abbrev pub L : (κ : Lft) → LL.Laws (D κ)
L κ = T'.the_laws (named_lft 1 0 tt (κ, tt))

abbrev pub vd : (κ : Lft) → Reader → Values (D κ).parts
vd κ d = (d.file, (d.at, tt))

-- the machine value of the file
abbrev pub file_val : Reader → Val
file_val d = slice_val d.file.ref_ptr (length d.file.now)

abbrev pub Own : Lft → Reader → Fml
Own κ d = (B (κ, tt)).own_val d (T'.lowered d ∷ [])

abbrev pub FileOwn : Lft → Reader → Fml
FileOwn κ d = (ShrSlice (named 0) κ u8).own_val d.file (file_val d ∷ [])

pub lends : {M : Type 1} {𝓤 : Ura M} (𝓛 : Logic 𝓤) (κ : Lft) (d : Reader) → ent 𝓤 (sem 𝓛 (Own κ d)) (sep 𝓤 (sem 𝓛 (FileOwn κ d)) (sem 𝓛 (Own κ d)))
lends 𝓛 κ d =
    qed 𝓛 (‵ (Own κ d) ∷ []) ∵ use1 𝓛 (‵ (Own κ d) ⊛ ‵ (Own κ d)) ((LL.copy (D κ) (T'.the_copy (named_lft 1 0 tt (κ, tt))) 𝓛).twice d (T'.lowered d ∷ [])) $ split ! $
    use1 𝓛 (given (T'.lowered d ∷ [] ≡ T'.lowered d ∷ []) (‵ (all_own (D κ).parts (L κ) (vd κ d)))) (own_open 𝓛 (D κ) (L κ) (vd κ d) (T'.lowered d)) $ learn ! (λ _.
    use1 𝓛 (‵ (field_own (D κ).parts (L κ) 0 d.file) ⊛ ‵ (rest (D κ).parts (L κ) 0 (vd κ d))) (own_out 𝓛 (D κ).parts (L κ) 0 (vd κ d)) $ split ! $ move ! (1 ∷ []) $ drop ! $ frame ! $ done !)
