-- `byte_shown` reads one byte of the device.
use Rattle.dialogue.specs.Dump.{byte_shown}
use Rattle.dialogue.proofs.dump.byte_shown.Goals as goal

pub returns : goal.returns
unfolding byte_shown
returns c =
    let byte = c.byte_at-2.ensures in
    let reply = c.read-answer.ensures in
    let device = c.byte_at.ensures in
    let function = c.function_at-function.ensures in
    rw (c.shown_or.ensures, byte, reply, device, function)
