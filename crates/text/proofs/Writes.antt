-- What stands at the front of a buffer after a write at its end.
use Prim.Native.Nat.{ℕ, ◌+◌, ◌-◌, ◌*◌, ◌<◌, ◌≤◌}
use mathlib.Core.List.{List, [], ◌∷◌, ◌++◌, append-nil, append_assoc}
use mathlib.Core.Logic.{⊎_elim}
use mathlib.Core.Path.{◌≡◌, refl, sym, ap, ◌∙◌}
use native.Mathlib.Numerals.{add-one}
use native.Mathlib.Omega.{arith}
use lib.ListN.{length, get_or, take, length-append, get_or-append}
use lib.Seq.{ext_get_or, length-take-le, get_or-take, get_or-append-add}
use Rattle.io.specs.Counts.{IsPrefixLen}
use Rattle.word.specs.Store.{laid_over}
use Rattle.word.proofs.Tests.{below_or_not}
use Rattle.word.proofs.Intervals.{covers_in, covers_before}
use Rattle.word.proofs.Puts.{laid_length, laid_at}
use Rattle.text.specs.Part.{parts_below, Put}
use Rattle.text.specs.declared.buffer.Text.{Text}

module _ (bytes : List ℕ) (o : ℕ) (part : List ℕ) (room : o + length part ≤ length bytes) where
  front : length (take o bytes) ≡ o
  front = length-take-le o bytes (omega arith)

  whole : length (take (o + length part) (laid_over bytes o (length part) part)) ≡ o + length part
  whole = length-take-le (o + length part) (laid_over bytes o (length part) part) (rw (laid_length bytes o part (length part)) room)

  -- a part that is laid after the first o bytes follows them
  laid_each : (i : ℕ) → i < o + length part → get_or (take (o + length part) (laid_over bytes o (length part) part)) i 0 ≡ get_or (take o bytes ++ part) i 0
  laid_each i h =
      get_or-take (o + length part) (laid_over bytes o (length part) part) i 0 h ∙
      laid_at bytes o part (length part) i (omega arith) ∙
      ⊎_elim (λ (l : i < o). rw (covers_before o (length part) i l) (sym (get_or-append (take o bytes) part 0 i (rw front l) ∙ get_or-take o bytes i 0 l)))
      (λ (l : o ≤ i).
      let e : length (take o bytes) + (i - o) ≡ i = omega (arith, front) in
      rw (covers_in o (length part) i l h) (sym (rw e at (get_or-append-add (take o bytes) part (i - o) 0))))
      (below_or_not i o)

  pub laid_take : take (o + length part) (laid_over bytes o (length part) part) ≡ take o bytes ++ part
  laid_take =
      ext_get_or 0 (take (o + length part) (laid_over bytes o (length part) part)) (take o bytes ++ part) (whole ∙ sym (length-append (take o bytes) part ∙ rw front)) (λ i l. laid_each i (rw whole at l))

-- as many bytes as a buffer has can be counted
pub counts : (n : ℕ) (buffer : List ℕ) → n ≤ length buffer → IsPrefixLen n buffer
counts n buffer h = (h, sym (length-take-le n buffer h))

-- parts written one after the other
abbrev pub run : List ℕ → List (List ℕ) → List ℕ
run f [] = f
run f (p ∷ ps) = run (f ++ p) ps

pub joined : (f p : List ℕ) (ps : List (List ℕ)) → run (f ++ p) ps ≡ f ++ run p ps
joined f p [] = refl
joined f p (q ∷ ps) = ap (λ (x : List ℕ). run x ps) (append_assoc f p q) ∙ joined f (p ++ q) ps

-- parts behind a text: none, and one more
pub parts_none : (f : List ℕ) (part : ℕ → List ℕ) → f ++ parts_below part 0 ≡ f
unfolding parts_below
parts_none f part = append-nil f

pub parts_more : (f : List ℕ) (part : ℕ → List ℕ) (k : ℕ) → f ++ parts_below part k ++ part k ≡ f ++ parts_below part (k + 1)
unfolding parts_below
parts_more f part k = rw add-one (append_assoc f (parts_below part k) (part k))

-- one part more, in the room of one more
pub put_more : (before text after : Text) (part : ℕ → List ℕ) (room k : ℕ) → Put before text (k * room) (parts_below part k) → Put text after room (part k) → Put before after ((k + 1) * room) (parts_below part (k + 1))
put_more before text after part room k p q =
    record {
      end = omega (arith, p.end, q.end);
      lent = q.lent ∙ p.lent;
      long = q.long ∙ p.long;
      text = q.text ∙ rw p.text (parts_more (take before.at before.bytes.now) part k);
    }

pub put_none : (text : Text) (part : ℕ → List ℕ) (room : ℕ) → Put text text (0 * room) (parts_below part 0)
put_none text part room = record { end = omega arith; lent = refl; long = refl; text = sym (parts_none (take text.at text.bytes.now) part) }

-- more room changes nothing
pub put_within : (before after : Text) (part : List ℕ) (room more : ℕ) → Put before after room part → room ≤ more → Put before after more part
put_within before after part room more p h = record { end = omega (arith, p.end); lent = p.lent; long = p.long; text = p.text }
