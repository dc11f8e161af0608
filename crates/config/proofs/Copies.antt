-- A part of bytes that is copied, byte by byte: the loop of `copy`.
use Prim.Native.Nat.{ℕ, ◌+◌, ◌-◌, ◌<◌, ◌≤◌, min}
use mathlib.Core.List.{List, [], ◌∷◌}
use mathlib.Core.Logic.{⊎_elim}
use mathlib.Core.Path.{◌≡◌, refl, sym, ◌∙◌}
use native.Mathlib.Omega.{arith}
use lib.ListN.{length, get_or, set}
use Rattle.word.specs.Interval.{covers}
use Rattle.word.proofs.Tests.{below_or_not}
use Rattle.word.proofs.Intervals.{covers_in, covers_before, covers_after, covers_same}
use Rattle.config.specs.Field.{part, under, laid}
use Rattle.config.proofs.Fields.{under_one, laid_is, laid_ext, laid_set}

-- of two parts that start together, a place that both cover or neither has the same
alike : (b o n w base : ℕ) (bytes : List ℕ) (j : ℕ) → covers o n j ≡ covers o w j → under b (part o n base bytes ∷ []) j ≡ under b (part o w base bytes ∷ []) j
alike b o n w base bytes j e = under_one b (part o n base bytes) j ∙ rw e (sym (under_one b (part o w base bytes) j))

-- before the first byte
pub part_none : (l : List ℕ) (o base : ℕ) (bytes : List ℕ) → laid l (part o 0 base bytes ∷ []) ≡ l
part_none l o base bytes =
    sym (laid_is l l (part o 0 base bytes ∷ []) refl (λ j h.
    sym (under_one (get_or l j 0) (part o 0 base bytes) j ∙
    ⊎_elim (λ (a : j < o). rw (covers_before o 0 j a)) (λ (a : o ≤ j). rw (covers_after o 0 j (omega arith))) (below_or_not j o))))

-- one byte more: the step of the loop
pub part_more : (l : List ℕ) (o i base : ℕ) (bytes : List ℕ) (b : ℕ) → o + i < length l → b ≡ get_or bytes (o + i - base) 0 → set (laid l (part o i base bytes ∷ [])) (o + i) b ≡ laid l (part o (i + 1) base bytes ∷ [])
part_more l o i base bytes b h e =
    laid_set l (part o i base bytes ∷ []) (part o (i + 1) base bytes ∷ []) (o + i) b h
    (e ∙ sym (under_one (get_or l (o + i) 0) (part o (i + 1) base bytes) (o + i) ∙ rw (covers_in o (i + 1) (o + i) (omega arith) (omega arith))))
    (λ j k n. alike (get_or l j 0) o i (i + 1) base bytes j (covers_same o i (i + 1) j (λ a. omega arith) (λ a. ⊎_elim (λ (q : j < o + i). q) (λ q. absurd (n (omega arith))) (below_or_not j (o + i)))))

-- places past the end are not copied to
pub part_reach : (l : List ℕ) (o n w base : ℕ) (bytes : List ℕ) → min n (length l - o) ≡ min w (length l - o) → laid l (part o n base bytes ∷ []) ≡ laid l (part o w base bytes ∷ [])
part_reach l o n w base bytes e =
    laid_ext l (part o n base bytes ∷ []) (part o w base bytes ∷ []) (λ j h.
    alike (get_or l j 0) o n w base bytes j (covers_same o n w j (λ a. omega arith) (λ a. omega arith)))
