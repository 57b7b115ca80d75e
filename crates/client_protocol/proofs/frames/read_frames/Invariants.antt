-- the requests so far, and then the rest
use Rattle.std.proofs.Common.{◌≡◌, List, ◌++◌, length}
use Rattle.client_protocol.specs.Requests.{Request}
use Rattle.client_protocol.specs.Frames.{frames_of, Follow}
use Rattle.client_protocol.proofs.frames.read_frames.Given as goal

abbrev pub invariant-loop-behind : goal.invariant-loop-behind
invariant-loop-behind l = (new : List Request) × (l.requests ≡ l.fn.requests ++ new) × Follow l.fn.hello new l.hello × (l.bytes ≡ frames_of new ++ l.rest)

abbrev pub decreases-loop-behind : goal.decreases-loop-behind
decreases-loop-behind l = length l.rest
