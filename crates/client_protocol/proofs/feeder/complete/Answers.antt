use Rattle.std.proofs.Common.{◌≡◌, ◌++◌, take}
use Rattle.client_protocol.proofs.HeldLaws.{refused_if}
use Rattle.client_protocol.proofs.feeder.complete.Goals as goal

-- if the frame with its missing bytes is refused, so is the stream
pub returns-in-Err-clause-fault : goal.returns-in-Err-clause-fault
returns-in-Err-clause-fault c =
    let (same, begun, grown, all) = c.loop-piece.invariant in
    let rest = c.loop-piece.rest.items in
    let piece = c.loop-piece.piece.now in
    let lacks = c.lacking-lacks.result in
    let bytes : c.as_slice-in-loop-piece.result.now ≡ rest ++ take lacks piece = cc (c.as_slice-in-loop-piece.ensures, c.in_ok-extend_from_slice-2.ensures.ok, c.split_at.ensures.front) in
    refused_if c.args.hello (c.args.rest.now.items ++ c.args.piece.now) rest piece lacks c.in-Err.fault c.args.requests.now c.loop-piece.requests c.read_next.new.self same all (rw bytes at c.in-Err.ensures.fault)
