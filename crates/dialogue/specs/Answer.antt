-- What a line is answered, and the bus after it (the console's table of commands).
use Rattle.std.specs.Prelude.{ℕ, ◌+◌, ◌*◌, ◌≤◌, List, [], ◌∷◌, ◌++◌, ◌≡◌, take}
use Rattle.text.specs.Line.{ended}
use Rattle.word.specs.Number.{part_of}
use Rattle.address.specs.Limits.{function_room}
use Rattle.bus.specs.Access.{bus_read_of, bus_write_of}
use Rattle.bus.specs.Lookup.{lookup_of}
use Rattle.bus.specs.Reset.{bus_reset_of}
use Rattle.bus.specs.declared.state.Bus.{Bus}
use Rattle.enumeration.specs.Enumerate.{enumerate_of}
use Rattle.dialogue.specs.Access.{read_text, write_text, lookup_text, reset_text}
use Rattle.dialogue.specs.Report.{report_text, revision_text}
use Rattle.dialogue.specs.Dump.{dump_room, dump_text}
use Rattle.dialogue.specs.declared.answers.Answered.{Answered}
use Rattle.command.specs.declared.line.Command.{Command}
use Rattle.command.specs.declared.line.Command.TheVariants.{Read, Write, Lookup, Reset, Enumerate, Revision, Dump, Unknown}

-- "? LINE"; of a line of more than 4,096 bytes as many are shown
abbrev pub unknown_mark : List ℕ
unknown_mark = 63 ∷ 32 ∷ []

abbrev pub line_most : ℕ
line_most = 4096

unfoldable pub unknown_text : List ℕ → List ℕ
unknown_text line = unknown_mark ++ part_of line 0 line_most ++ ended

abbrev pub unknown_room : ℕ
unknown_room = 2 + line_most + 1

-- the longest answer is a dump
abbrev pub answer_room : ℕ
answer_room = function_room * dump_room

abbrev pub answer_text : Bus → List ℕ → Command → List ℕ
answer_text b line (Read d o w) = read_text w (bus_read_of b d o w)
answer_text b line (Write d o w v) = write_text (bus_write_of b d o w v).answer
answer_text b line (Lookup a w) = lookup_text (lookup_of b a w)
answer_text b line Reset = reset_text (bus_reset_of b).answer
answer_text b line (Enumerate d) = report_text d (enumerate_of b d).report
answer_text b line (Revision d) = revision_text b d
answer_text b line Dump = dump_text b
answer_text b line Unknown = unknown_text line

-- reads, lookups and what is not known change nothing
abbrev pub bus_after : Bus → Command → Bus
bus_after b (Read d o w) = b
bus_after b (Write d o w v) = (bus_write_of b d o w v).bus
bus_after b (Lookup a w) = b
bus_after b Reset = (bus_reset_of b).bus
bus_after b (Enumerate d) = (enumerate_of b d).bus
bus_after b (Revision d) = b
bus_after b Dump = b
bus_after b Unknown = b

-- a text at the front of a buffer, and a bus, as answered
abbrev pub Told : List ℕ → Answered → List ℕ → Bus → Type 0
Told buffer r text b = (r.length ≤ answer_room) × (take r.length buffer ≡ text) × (r.bus ≡ b)
