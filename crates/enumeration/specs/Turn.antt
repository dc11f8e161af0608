-- One turn along the list of capabilities; proofs/Lists.antt ties it to `list_from`.
use Rattle.std.specs.Prelude.{ℕ, ◌+◌, Bool, false, cond, eqb}
use Rattle.bus.specs.declared.state.Bus.{Bus}
use Rattle.enumeration.specs.Enumerate.{asked, answers_byte}
use Rattle.enumeration.specs.declared.report.Listed.{Listed}

-- whether a pointer leads to a capability
unfoldable pub goes_on : Bus → ℕ → ℕ → Bool
goes_on b d p = cond (eqb p 0) false (answers_byte b d p)

-- the capability that it leads to
unfoldable pub listed_at : Bus → ℕ → ℕ → Listed
listed_at b d p = record { offset = p; id = asked b d p 1 }

-- the pointer after it, 0 where none is read
unfoldable pub next_pointer : Bus → ℕ → ℕ → ℕ
next_pointer b d p = cond (answers_byte b d (p + 1)) (asked b d (p + 1) 1) 0
