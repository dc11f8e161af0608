-- `has_room` compares with what is left, so that no sum can wrap.
use mathlib.Core.Path.{sym, ◌∙◌}
use native.Mathlib.Omega.{arith}
use borrow.Author.Tests.{lt-leb}
use Rattle.text.proofs.Rooms.{room_short, room_rest}
use Rattle.text.proofs.written.has_room.Goals as goal

pub returns-then-length-room : goal.returns-then-length-room
returns-then-length-room c = room_rest c.args.length c.args.at c.args.room (omega arith)

pub returns-else-length-room : goal.returns-else-length-room
returns-else-length-room c = lt-leb _ _ (omega arith) ∙ sym (room_short c.args.length c.args.at c.args.room (omega arith))
