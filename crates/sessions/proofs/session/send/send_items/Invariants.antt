-- the items so far are written
use Rattle.std.proofs.Common.{take, map}
use Rattle.client_protocol.specs.Responses.{response_frames}
use Rattle.sessions.specs.Answering.{item_of}
use Rattle.devices.specs.Devices.{TakesBytes}
use Rattle.sessions.proofs.session.send.send_items.Given as goal

abbrev pub invariant-loop-position : goal.invariant-loop-position
invariant-loop-position g l =
    TakesBytes (g.W.Sink.state l.fn.writer) (g.W.Sink.state l.writer) (response_frames (map item_of (take l.position l.items)))
