use Rattle.client_protocol.proofs.FrameLaws.{feeds_then}
use Rattle.client_protocol.proofs.laws.pieces_go_on.Goals as goal

pub returns : goal.returns
returns c = feeds_then
