-- What some lines ask, as one statement over a list (proofs/Examples.antt proves it).
use Rattle.std.specs.Prelude.{ℕ, List, [], ◌∷◌}
use Rattle.command.specs.declared.line.Command.{Command}
use Rattle.command.specs.declared.line.Command.TheVariants.{Read, Write, Lookup, Reset, Enumerate, Revision, Dump, Unknown}

infix 3 ◌asks◌
-- a line in ASCII, and what it asks
pub data Example : Type 0 where
  ◌asks◌ : List ℕ → Command → Example

abbrev pub line : Example → List ℕ
line (l asks c) = l

abbrev pub meant : Example → Command
meant (l asks c) = c

unfoldable pub examples : List Example
examples =
    ((114 ∷ 32 ∷ 51 ∷ 32 ∷ 51 ∷ 52 ∷ 32 ∷ 50 ∷ []) asks (Read 3 0x34 2)) ∷
    ((119 ∷ 32 ∷ 51 ∷ 32 ∷ 49 ∷ 48 ∷ 32 ∷ 52 ∷ 32 ∷ 102 ∷ 102 ∷ 102 ∷ 102 ∷ 102 ∷ 102 ∷ 102 ∷ 102 ∷ []) asks (Write 3 0x10 4 0xffffffff)) ∷
    ((109 ∷ 32 ∷ 56 ∷ 48 ∷ 48 ∷ 48 ∷ 49 ∷ 48 ∷ 48 ∷ 48 ∷ 32 ∷ 56 ∷ []) asks (Lookup 0x80001000 8)) ∷
    ((122 ∷ []) asks (Reset)) ∷
    ((101 ∷ 32 ∷ 49 ∷ 70 ∷ []) asks (Enumerate 31)) ∷
    ((118 ∷ 32 ∷ 102 ∷ 102 ∷ 102 ∷ 102 ∷ 102 ∷ 102 ∷ 102 ∷ 102 ∷ 102 ∷ 102 ∷ 102 ∷ 102 ∷ 102 ∷ 102 ∷ 102 ∷ 102 ∷ []) asks (Revision 0xffffffffffffffff)) ∷
    ((120 ∷ []) asks (Dump)) ∷
    ((118 ∷ 32 ∷ 49 ∷ 48 ∷ 48 ∷ 48 ∷ 48 ∷ 48 ∷ 48 ∷ 48 ∷ 48 ∷ 48 ∷ 48 ∷ 48 ∷ 48 ∷ 48 ∷ 48 ∷ 48 ∷ 48 ∷ []) asks (Unknown)) ∷
    ((109 ∷ 32 ∷ 48 ∷ 32 ∷ 97 ∷ []) asks (Unknown)) ∷
    ((114 ∷ 32 ∷ 51 ∷ 32 ∷ 51 ∷ 52 ∷ []) asks (Unknown)) ∷
    ((114 ∷ 32 ∷ 51 ∷ 32 ∷ 32 ∷ 51 ∷ 52 ∷ 32 ∷ 50 ∷ []) asks (Unknown)) ∷
    ((122 ∷ 32 ∷ []) asks (Unknown)) ∷
    ([] asks Unknown) ∷
    []
